use Rattle.std.proofs.Common.{◌≡◌, List, Option, Some, None, refl, sym, ap, ◌∙◌}
use Rattle.std.specs.Prelude.{codes, option_map}
use Rattle.clap.specs.declared.parser.ArgMatches.{ArgMatches}
use Rattle.clap.specs.Walk.{Row, Text}
use Rattle.clap.specs.Words.{first_of, found_of, rows_of, subcommand_name_of, subcommand_rows_of}
use Rattle.clap.proofs.WalkLemmas.{first_value-rows}
use Rattle.command_line.specs.Program.{command_met}
use Rattle.command_line.specs.Words.{command_by}
use Rattle.command_line.proofs.parser.command_met.Goals as goal

-- mapping to pairs and then to the first of each is mapping to the firsts
firsts : {X A B : Type 0} (f : X → A) (g : X → B) (o : Option X)
    → option_map (λ (p : A × B). p.0) (option_map (λ (x : X). (f x, g x)) o) ≡ option_map f o
firsts f g None = refl
firsts f g (Some x) = refl

-- the name that the matches have is that of the subcommand that the parse entered
rows_name : (m : ArgMatches) → option_map (λ p. p.0) (subcommand_rows_of m) ≡ subcommand_name_of m
rows_name m = firsts _ _ _

-- a name and rows that were found give the command of the name and its number
met_pair : (met : Option (Text × List Row)) (name : Text) (rows : List Row)
    → option_map (λ p. p.0) met ≡ Some name → option_map (λ p. p.1) met ≡ Some rows
    → command_met met ≡ command_by name (first_of (codes "number") rows)
met_pair None name rows n r = absurd (cc)
met_pair (Some p) name rows n r =
    let is : p.0 ≡ name = cc in let are : p.1 ≡ rows = cc in rw (is, are) refl

met_none : (met : Option (Text × List Row)) → option_map (λ p. p.1) met ≡ None
    → command_met met ≡ None
met_none None h = refl
met_none (Some p) h = absurd (cc)

pub returns-in-Some : goal.returns-in-Some
returns-in-Some c =
    let m : ArgMatches = c.args.matches.now in
    let name : Text = c.in-Some.name.now in
    c.by.ensures ∙ ap (λ (n : Option Text). command_by name n)
    (c.get_str.ensures ∙ first_value-rows (found_of c.in-Some.rest.now) (codes "number"))
    ∙ sym (met_pair (subcommand_rows_of m) name (rows_of (found_of c.in-Some.rest.now))
    (rows_name m ∙ sym c.in-Some.ensures.name) (sym c.in-Some.ensures.rows))

pub returns-in-None : goal.returns-in-None
returns-in-None c =
    sym (met_none (subcommand_rows_of c.args.matches.now) (sym c.in-None.ensures.rows))
