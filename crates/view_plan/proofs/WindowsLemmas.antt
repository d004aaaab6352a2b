-- The windows of an inode so far, and those that one more window of a page gives.
use Rattle.std.proofs.Common.{◌≡◌, ◌≢◌, ℕ, ◌+◌, ◌<◌, List, [], ◌∷◌, ◌++◌, length, drop, get_or, refl, sym, ap, ◌∙◌}
use Rattle.std.proofs.lemmas.Bool.{eq-eqb, ne_eqb}
use Rattle.std.proofs.lemmas.List.{at_drop_more}
use Rattle.list_lemmas.proofs.Remaining.{one_less}
use Rattle.view_journal.specs.declared.window.Window.{Window}
use Rattle.view_plan.specs.Plan.{windows_in}
use Rattle.view_plan.specs.declared.plan.Shown.{Shown}

-- what stands for a window where there is none
abbrev pub no_window : Window
no_window = record { first = 0; last = 0 }

abbrev pub no_shown : Shown
no_shown = record { inode = 0; window = no_window }

-- a window of the inode
pub own_next : (inode : ℕ) (ss : List Shown) (i : ℕ) (d : Shown) (found more all : List Window)
    → i < length ss → (get_or ss i d).inode ≡ inode
    → more ≡ found ++ (get_or ss i d).window ∷ []
    → found ++ windows_in inode (drop i ss) ≡ all
    → more ++ windows_in inode (drop (i + 1) ss) ≡ all
own_next inode ss i d found more all lt same pushed h =
    let s : Shown = get_or ss i d in
    let rest : List Window = windows_in inode (drop (i + 1) ss) in
    let on : windows_in inode (s ∷ drop (i + 1) ss) ≡ s.window ∷ rest
    = rw (eq-eqb s.inode inode same) refl in
    one_less found (windows_in inode) ss i d (s.window ∷ []) rest lt on h pushed

-- a window of another one
pub other_next : (inode : ℕ) (ss : List Shown) (i : ℕ) (d : Shown) (found all : List Window)
    → i < length ss → (get_or ss i d).inode ≢ inode
    → found ++ windows_in inode (drop i ss) ≡ all
    → found ++ windows_in inode (drop (i + 1) ss) ≡ all
other_next inode ss i d found all lt other h =
    let s : Shown = get_or ss i d in
    let on : windows_in inode (s ∷ drop (i + 1) ss) ≡ windows_in inode (drop (i + 1) ss)
    = rw (ne_eqb s.inode inode other) refl in
    ap (λ (x : List Window). found ++ x) (sym (at_drop_more (windows_in inode) ss i d lt ∙ on)) ∙ h
