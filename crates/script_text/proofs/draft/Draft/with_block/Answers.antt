use Rattle.std.proofs.Common.{◌≡◌, ◌≤◌, ◌∙◌, ℕ, Bool, true, false, nat_lt, List, length, Option}
use Rattle.std.proofs.Common.{is_some, Err, refl, sym, ap, subst, arith}
use Rattle.std.proofs.lemmas.Bool.Decides.{nat_tests}
use Rattle.script_words.specs.declared.fault.LineCause.TheVariants as cause
use Rattle.script_fields.specs.Limits.{most_files}
use Rattle.call_lines.specs.Places.{place_in}
use Rattle.script_text.specs.Draft.{Draft}
use Rattle.script_text.specs.Files.{with_block}
use Rattle.script_text.specs.contracts.draft.Draft.{the_view}
use Rattle.script_text.specs.declared.blocks.FileBlock.{FileBlock}
use Rattle.script_text.proofs.Memory.{out_of_memory}
use Rattle.script_text.proofs.draft.Draft.with_block.Goals as goal

module _ (b : FileBlock) (x d : Draft) (o : Option ℕ) (path : List ℕ) (view : x ≡ d)
    (found : o ≡ place_in x.paths path) (same : path ≡ b.path) where
  -- whether a file has the path is what was looked up
  looked_up : (t : Bool) → t ≡ is_some o → is_some (place_in x.paths b.path) ≡ t
  looked_up t h =
      sym (h ∙ ap (λ (p : Option ℕ). is_some p) (found ∙ ap (place_in x.paths) same))

  -- a path that a file has is refused
  block_twice : true ≡ is_some o → with_block b d ≡ Err cause.Twice
  block_twice h =
      subst (λ (y : Draft). with_block b y ≡ Err cause.Twice) view (rw (looked_up true h) refl)

  -- no file is added to the most
  block_too_many : false ≡ is_some o → most_files ≤ length x.paths
      → with_block b d ≡ Err cause.TooMany
  block_too_many h many =
      let full : nat_lt (length x.paths) most_files ≡ false = grind (arith, nat_tests) in
      subst (λ (y : Draft). with_block b y ≡ Err cause.TooMany) view
      (rw (looked_up false h, full) refl)

pub returns-then-is_some : goal.returns-then-is_some
returns-then-is_some c =
    block_twice c.args.block (the_view c.self.inside) c.args.self.now c.place.result
    c.as_slice.result.now c.self.view_is c.place.ensures c.as_slice.ensures.bytes
    c.if-is_some.ensures

pub returns-then-len-ge-FILES : goal.returns-then-len-ge-FILES
returns-then-len-ge-FILES c =
    block_too_many c.args.block (the_view c.self.inside) c.args.self.now c.place.result
    c.as_slice.result.now c.self.view_is c.place.ensures c.as_slice.ensures.bytes
    c.if-is_some.ensures (rw c.len.ensures at c.if-len-ge-FILES.true)

pub returns-in_err-self-inside : goal.returns-in_err-self-inside
returns-in_err-self-inside c =
    out_of_memory c.from_residual-in_err-self-inside.result _ _
    c.from_residual-in_err-self-inside.ensures.1

pub returns-in_err-push : goal.returns-in_err-push
returns-in_err-push c =
    out_of_memory c.from_residual-in_err-push.result _ _
    c.from_residual-in_err-push.ensures.1
