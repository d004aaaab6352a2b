-- How a caller's file is held.
use Rattle.std.proofs.Common.{◌≡◌, ℕ, Bool, true, false, cond, List, [], ◌∷◌, length, Some, refl, sym, ◌∙◌, ap}
use Rattle.std.specs.Prelude.{◌==◌, option_map}
use Rattle.std.proofs.lemmas.Bool.{eq-eqb}
use Rattle.std.proofs.lemmas.Option.{same_Some}
use Rattle.inode_events.specs.Callers.{caller_of}
use Rattle.inode_events.specs.Files.{counted}
use Rattle.inode_events.specs.declared.told.Event.{Event}
use Rattle.journal_laws.specs.Standing.{event_at}
use Rattle.journal_laws.proofs.Holding.{held_counted}
use Rattle.journal_laws.specs.Own.{how_in, own_past}
use Rattle.journal_laws.specs.OwnLaws.{HowIsOwn}

-- the own event at the file's place says how the file was opened
how_counted : (n f : ℕ) (e : Event) (p : List Event) → event_at f p ≡ Some e → caller_of e ≡ n
    → how_in f (own_past n p) ≡ counted e.deed e.told
how_counted n f e [] h s = absurd (cc)
how_counted n f e (x ∷ p) h s = at (how_counted n f e p) (n == caller_of x) refl where
  here : (event_at f p ≡ Some e → caller_of e ≡ n → how_in f (own_past n p) ≡ counted e.deed e.told)
      → (c : Bool)
      → cond c (Some x) (event_at f p) ≡ Some e
      → cond c (counted x.deed x.told) (how_in f (own_past n p)) ≡ counted e.deed e.told
  here ih true g = ap (λ (y : Event). counted y.deed y.told) (same_Some x e g)
  here ih false g = ih g s

  other : (event_at f p ≡ Some e → caller_of e ≡ n
      → how_in f (own_past n p) ≡ counted e.deed e.told) → (n == caller_of x) ≡ false → (c : Bool)
      → cond c (Some x) (event_at f p) ≡ Some e → how_in f (own_past n p) ≡ counted e.deed e.told
  other ih q true g = let y : (n == caller_of x) ≡ true = eq-eqb n (caller_of x)
      (sym (ap caller_of (same_Some x e g) ∙ s)) in absurd (cc)
  other ih q false g = ih g s

  at : (event_at f p ≡ Some e → caller_of e ≡ n → how_in f (own_past n p) ≡ counted e.deed e.told)
      → (b : Bool) → (n == caller_of x) ≡ b
      → how_in f (cond b ((length p, x) ∷ own_past n p) (own_past n p)) ≡ counted e.deed e.told
  at ih true q = here ih (length p == f) h
  at ih false q = other ih q (length p == f) h

-- own entries say how a file is held, since its count is one of them
pub how_own : HowIsOwn
how_own i n f p legal c a =
    let r = held_counted i f p legal a in
    let mine : caller_of r.count ≡ n = same_Some (caller_of r.count) n
    (ap (option_map caller_of) (sym r.stands) ∙ c) in
    r.holds ∙ sym r.said ∙ sym (how_counted n f r.count p r.stands mine)
