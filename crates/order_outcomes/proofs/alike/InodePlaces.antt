-- The place that a step's outcome reports is in the list after the step, and lists that are alike
-- show the same there.
use Rattle.std.proofs.Common.{◌≡◌, ℕ, ◌<◌, Bool, true, false, cond, List, [], ◌∷◌, ◌++◌, length, length-append, append-nil, Option, Some, None, is_some, option_map, Result, Ok, Err, refl, ap, sym, subst, ◌∙◌, arith}
use Rattle.std.proofs.lemmas.Option.{same_Some}
use Rattle.journal_laws.proofs.Covering.{first_shows}
use Rattle.report_text.specs.model.events.Asked.{asked, list_after, measured_if, outcome, placed_for}
use Rattle.report_text.specs.model.events.Checks.{last_check}
use Rattle.report_text.specs.model.events.Files.{is_writing, readers, writers}
use Rattle.report_text.specs.model.events.Inode.{Inode}
use Rattle.report_text.specs.model.events.Integrity.{Collection, Digests, collecting, digest_from, digests_of, in_force}
use Rattle.report_text.specs.model.events.Listing.{measured}
use Rattle.report_text.specs.model.events.Marks.{is_label_due, must_measure}
use Rattle.report_text.specs.model.events.Grants.{grant_of}
use Rattle.report_text.specs.model.events.Says.{check_told, chunk_told, close_take_told, finish_told, place_of, says, set_attr_told, set_meta_told, status_told, take_told, unless_collecting}
use Rattle.report_text.specs.model.events.State.{content}
use Rattle.report_text.specs.model.events.declared.deed.Deed.{Deed}
use Rattle.report_text.specs.model.events.declared.deed.Deed.TheVariants as deed
use Rattle.report_text.specs.model.events.declared.told.Event.{Event}
use Rattle.report_text.specs.model.events.declared.told.Told.{Told}
use Rattle.report_text.specs.model.events.declared.told.Told.TheVariants as told
use Rattle.report_text.specs.model.events.meta.declared.appraisal.EvmStatus.{EvmStatus}
use Rattle.report_text.specs.model.events.templates.Same.{add, add_by, place_of_same, placed, placed_by}
use Rattle.report_text.specs.model.events.templates.declared.entry.Entry.{Entry}
use Rattle.report_text.specs.model.events.templates.declared.entry.Placed.{Placed}
use Rattle.order_outcomes.specs.Calls.{place_told, shows_at}
use Rattle.order_outcomes.proofs.alike.InodeLists.{added_shown}
use Rattle.order_outcomes.proofs.alike.InodeRetold.{told_with}
use Rattle.order_outcomes.specs.alike.Alike.{AreListsAlike}

-- a place, if there is one, is below the length of the list
abbrev pub IsPlaced : ℕ → Option ℕ → Type 0
IsPlaced n None = Unit {0}
IsPlaced n (Some place) = place < n

-- ---- the list after a step

-- it is the list before, or a longer one
pub after_longer : (list : List Entry) (e : Option Entry) (t : Told)
    → (more : List Entry) × (list ++ more ≡ list_after list e (Some t))
after_longer list None t = ([], append-nil list)
after_longer list (Some e) t = at (place_of_same list e) where
  at : (o : Option ℕ) → (more : List Entry) × (list ++ more ≡ add_by o list e)
  at None = (e ∷ [], refl)
  at (Some k) = ([], append-nil list)

-- the place of an entry is in the list to which it is added
placed_below : (list : List Entry) (e : Entry) → place_of (placed list e) < length (add list e)
placed_below list e = at (place_of_same list e) refl where
  at : (o : Option ℕ) → place_of_same list e ≡ o
      → place_of (placed_by o (length list)) < length (add_by o list e)
  at None h = let longer = length-append list (e ∷ []) in omega (arith, longer)
  at (Some k) h = (first_shows list e k h).2

-- a grant whose check measures reports the place of its entry
grant_placed : (list : List Entry) (measures : Bool) (inode : Inode) (file : ℕ) (f : Digests)
    (p : List Event) (t : Told)
    → IsPlaced (length (list_after list (measured_if measures inode file (Some f) p) (Some t)))
    (option_map place_of
    (cond measures (Some (placed_for list (measured_if measures inode file (Some f) p))) None))
grant_placed list true inode file f p t = placed_below list (measured inode file f p)
grant_placed list false inode file f p t = tt

-- ---- outcomes without a place

-- the outcome reports no place
record HasNoPlace (t : Told) : Type 0 where
  none : place_told t ≡ None

-- the outcome, if there is one, reports no place
abbrev IsUnplaced : Option Told → Type 0
IsUnplaced None = Unit {0}
IsUnplaced (Some t) = HasNoPlace t

-- a choice between two outcomes without a place has none
unplaced_cond : (b : Bool) (x y : Told) → HasNoPlace x → HasNoPlace y → HasNoPlace (cond b x y)
unplaced_cond true x y h k = h
unplaced_cond false x y h k = k

-- an outcome that reports no place by computing
unplaced_is : (t : Told) → place_told t ≡ None → HasNoPlace t
unplaced_is t h = record { none = h }

-- a change that EVM allows or forbids
unplaced_status : (x : Result (Unit {0}) EvmStatus) → HasNoPlace (status_told x)
unplaced_status (Ok y) = record { none = refl }
unplaced_status (Err y) = record { none = refl }

-- a step that waits for the integrity mutex
unplaced_unless : (c : Option Collection) (t : Told) → HasNoPlace t
    → IsUnplaced (unless_collecting c t)
unplaced_unless None t h = h
unplaced_unless (Some c) t h = tt

-- a chunk
unplaced_chunk : (content : List ℕ) (c : Option Collection) → IsUnplaced (chunk_told content c)
unplaced_chunk content None = tt
unplaced_chunk content (Some c) =
    search (unplaced_cond, unplaced_is)

-- a check, whose violation isn't a grant's place
unplaced_check : (writing measures : Bool) (readers writers : ℕ) (must : Bool) (place : ℕ)
    → HasNoPlace (check_told writing measures readers writers must place)
unplaced_check true measures readers writers must place =
    search (unplaced_cond, unplaced_is)
unplaced_check false measures readers writers must place =
    search (unplaced_cond, unplaced_is)

-- no take or finish
abbrev IsPlain : Deed → Type 0
IsPlain (deed.Take file) = ⊥
IsPlain (deed.Finish file) = ⊥
IsPlain d = Unit {0}

-- only grants report places
unplaced_says : (inode : Inode) (p : List Event) (placed : Placed) (d : Deed) → IsPlain d
    → IsUnplaced (says inode p placed d)
unplaced_says inode p placed (deed.Count how) plain =
    search (unplaced_cond, unplaced_is)
unplaced_says inode p placed (deed.Check file func action rules) plain =
    unplaced_check (is_writing file p) action.measure (readers p) (writers p) (must_measure p)
    (place_of placed)
unplaced_says inode p placed (deed.Take file) plain = absurd plain
unplaced_says inode p placed (deed.Chunk file) plain =
    unplaced_chunk (content p) (collecting inode p)
unplaced_says inode p placed (deed.Finish file) plain = absurd plain
unplaced_says inode p placed (deed.Read file from len) plain = record { none = refl }
unplaced_says inode p placed (deed.Write file from bytes) plain =
    search (unplaced_cond, unplaced_is)
unplaced_says inode p placed (deed.Trunc file len) plain =
    search (unplaced_cond, unplaced_is)
unplaced_says inode p placed (deed.SetAttr name bytes admin) plain =
    unplaced_unless (collecting inode p) (set_attr_told inode name bytes admin p)
    (search (unplaced_cond, unplaced_is, unplaced_status) depth 20)
unplaced_says inode p placed (deed.SetMeta change) plain =
    unplaced_unless (collecting inode p) (set_meta_told inode p)
    (search (unplaced_cond, unplaced_is, unplaced_status))
unplaced_says inode p placed (deed.Close file) plain = record { none = refl }
unplaced_says inode p placed (deed.CloseTake file) plain =
    unplaced_unless (collecting inode p) (close_take_told (is_label_due inode p) (writers p))
    (search (unplaced_cond, unplaced_is))
unplaced_says inode p placed (deed.CloseChunk file) plain =
    unplaced_chunk (content p) (collecting inode p)
unplaced_says inode p placed (deed.CloseFinish file) plain =
    search (unplaced_cond, unplaced_is)
unplaced_says inode p placed d plain = tt

-- an outcome that is one of these has no place
unplaced_told : (o : Option Told) (t : Told) → IsUnplaced o → o ≡ Some t → place_told t ≡ None
unplaced_told None t u h = cc
unplaced_told (Some x) t u h =
    sym (ap (λ (y : Told). place_told y) (same_Some x t h)) ∙ u.none

-- and no place is below any length
none_placed : (n : ℕ) (o : Option ℕ) → o ≡ None → IsPlaced n o
none_placed n o h = subst (λ (x : Option ℕ). IsPlaced n x) (sym h) tt

-- ---- the place of an outcome

module _ (inode : Inode) (list : List Entry) (file : ℕ) (p : List Event) where
  -- the last check of the file measures
  abbrev measures : Bool
  measures = (last_check file p).action.measure

  -- what a take asks for while a collection is open or not
  abbrev taken : Option Collection → Option Digests → Option Entry
  taken c o = cond (is_some c) None (measured_if measures inode file o p)

  -- a take reports a place in the list after it, if any
  take_placed : (c : Option Collection) (o : Option Digests) (t : Told)
      → unless_collecting c (take_told inode file (placed_for list (taken c o)) o p) ≡ Some t
      → IsPlaced (length (list_after list (taken c o) (Some t))) (place_told t)
  take_placed (Some c) o t h = cc
  take_placed None None t h =
      none_placed (length (list_after list (taken None None) (Some t))) (place_told t)
      (unplaced_told (Some told.Begun) t (record { none = refl }) h)
  take_placed None (Some f) t h =
      subst (λ (x : Told). IsPlaced (length (list_after list (taken None (Some f)) (Some x)))
      (place_told x))
      (same_Some (told.Grant (grant_of inode file (placed_for list (taken None (Some f)))
      f.digest p)) t h)
      (grant_placed list measures inode file f p
      (told.Grant (grant_of inode file (placed_for list (taken None (Some f))) f.digest p)))

  -- what a finish asks for
  abbrev finished : Option Collection → Option Entry
  finished c = measured_if measures inode file (option_map digests_of c) p

  -- so does a finish
  finish_placed : (c : Option Collection) (t : Told)
      → finish_told inode file (placed_for list (finished c)) c p ≡ Some t
      → IsPlaced (length (list_after list (finished c) (Some t))) (place_told t)
  finish_placed None t h = cc
  finish_placed (Some c) t h =
      subst (λ (x : Told). IsPlaced (length (list_after list (finished (Some c)) (Some x)))
      (place_told x))
      (same_Some (told.Grant (grant_of inode file (placed_for list (finished (Some c)))
      (digest_from c) p)) t h)
      (grant_placed list measures inode file (digests_of c) p
      (told.Grant (grant_of inode file (placed_for list (finished (Some c))) (digest_from c) p)))

-- so does every outcome
pub outcome_placed : (inode : Inode) (list : List Entry) (d : Deed) (p : List Event) (t : Told)
    → outcome inode list d p ≡ Some t
    → IsPlaced (length (list_after list (asked inode d p) (Some t))) (place_told t)
outcome_placed inode list (deed.Take file) p t h =
    take_placed inode list file p (collecting inode p) (in_force inode p) t h
outcome_placed inode list (deed.Finish file) p t h =
    finish_placed inode list file p (collecting inode p) t h
outcome_placed inode list d p t h =
    none_placed (length (list_after list (asked inode d p) (Some t))) (place_told t)
    (unplaced_told (outcome inode list d p) t
    (unplaced_says inode p (placed_for list (asked inode d p)) d tt) h)

-- ---- what the list shows at that place

-- an outcome without a place has none with another reply
unplaced_with : (q : Placed) (t : Told) → place_told t ≡ None → place_told (told_with q t) ≡ None
unplaced_with q (told.Grant grant) h = at grant.placed h
  where
    at : (o : Option Placed) → option_map place_of o ≡ None
        → option_map place_of (option_map (λ (old : Placed). q) o) ≡ None
    at None h = refl
    at (Some old) h = cc
unplaced_with q t h = refl

module _ (inode : Inode) (list list2 : List Entry) (alike : AreListsAlike list list2)
    (file : ℕ) (p : List Event) (bytes : List ℕ) where
  -- both lists show the same at the place of the outcome, after a step that asks for this entry
  abbrev IsShown : Option Entry → Told → Type 0
  IsShown e t =
      shows_at (list_after list2 e (Some (told_with (placed_for list2 e) t))) bytes
      (place_told (told_with (placed_for list2 e) t))
      ≡ shows_at (list_after list e (Some t)) bytes (place_told t)

  -- nothing, if the outcome has no place
  shown_none : (e : Option Entry) (t : Told) → place_told t ≡ None → IsShown e t
  shown_none e t h =
      ap (shows_at (list_after list2 e (Some (told_with (placed_for list2 e) t))) bytes)
      (unplaced_with (placed_for list2 e) t h)
      ∙ sym (ap (shows_at (list_after list e (Some t)) bytes) h)

  -- a grant whose check measures
  grant_shown : (measures : Bool) (f : Digests) (t t2 : Told)
      → shows_at (list_after list2 (measured_if measures inode file (Some f) p) (Some t2)) bytes
      (option_map place_of (option_map (λ (old : Placed). placed_for list2
      (measured_if measures inode file (Some f) p))
      (cond measures (Some (placed_for list (measured_if measures inode file (Some f) p))) None)))
      ≡ shows_at (list_after list (measured_if measures inode file (Some f) p) (Some t)) bytes
      (option_map place_of
      (cond measures (Some (placed_for list (measured_if measures inode file (Some f) p))) None))
  grant_shown true f t t2 = added_shown list list2 alike (measured inode file f p) bytes
  grant_shown false f t t2 = refl

  -- a take
  take_shown : (c : Option Collection) (o : Option Digests) (t : Told)
      → unless_collecting c
      (take_told inode file (placed_for list (taken inode list file p c o)) o p) ≡ Some t
      → IsShown (taken inode list file p c o) t
  take_shown (Some c) o t h = cc
  take_shown None None t h =
      shown_none (taken inode list file p None None) t
      (unplaced_told (Some told.Begun) t (record { none = refl }) h)
  take_shown None (Some f) t h =
      subst (λ (x : Told). IsShown (taken inode list file p None (Some f)) x)
      (same_Some (told.Grant (grant_of inode file
      (placed_for list (taken inode list file p None (Some f))) f.digest p)) t h)
      (grant_shown (last_check file p).action.measure f
      (told.Grant (grant_of inode file (placed_for list (taken inode list file p None (Some f)))
      f.digest p))
      (told_with (placed_for list2 (taken inode list file p None (Some f)))
      (told.Grant (grant_of inode file (placed_for list (taken inode list file p None (Some f)))
      f.digest p))))

  -- a finish
  finish_shown : (c : Option Collection) (t : Told)
      → finish_told inode file (placed_for list (finished inode list file p c)) c p ≡ Some t
      → IsShown (finished inode list file p c) t
  finish_shown None t h = cc
  finish_shown (Some c) t h =
      subst (λ (x : Told). IsShown (finished inode list file p (Some c)) x)
      (same_Some (told.Grant (grant_of inode file
      (placed_for list (finished inode list file p (Some c))) (digest_from c) p)) t h)
      (grant_shown (last_check file p).action.measure (digests_of c)
      (told.Grant (grant_of inode file (placed_for list (finished inode list file p (Some c)))
      (digest_from c) p))
      (told_with (placed_for list2 (finished inode list file p (Some c)))
      (told.Grant (grant_of inode file (placed_for list (finished inode list file p (Some c)))
      (digest_from c) p))))

-- lists that are alike show the same at the places that they give an outcome
pub outcome_shown : (inode : Inode) (list list2 : List Entry) → AreListsAlike list list2
    → (d : Deed) (p : List Event) (t : Told) (bytes : List ℕ) → outcome inode list d p ≡ Some t
    → let asks = asked inode d p in
    let t2 = told_with (placed_for list2 asks) t in
    shows_at (list_after list2 asks (Some t2)) bytes (place_told t2)
    ≡ shows_at (list_after list asks (Some t)) bytes (place_told t)
outcome_shown inode list list2 alike (deed.Take file) p t bytes h =
    take_shown inode list list2 alike file p bytes (collecting inode p) (in_force inode p) t h
outcome_shown inode list list2 alike (deed.Finish file) p t bytes h =
    finish_shown inode list list2 alike file p bytes (collecting inode p) t h
outcome_shown inode list list2 alike d p t bytes h =
    shown_none inode list list2 alike 0 p bytes (asked inode d p) t
    (unplaced_told (outcome inode list d p) t
    (unplaced_says inode p (placed_for list (asked inode d p)) d tt) h)
