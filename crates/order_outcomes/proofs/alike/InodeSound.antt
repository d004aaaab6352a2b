-- A journal stays sound with one more event, and in a longer list.
use Rattle.std.proofs.Common.{◌≡◌, ℕ, suc, ◌<◌, ◌≤◌, Bool, true, List, ◌∷◌, length, Option, Some, None, ◌∙◌, arith}
use Rattle.std.specs.Prelude.{◌==◌, All}
use Rattle.std.proofs.lemmas.Bool.{cond-false, ne_eqb}
use Rattle.std.proofs.lemmas.List.Elements.{All-cons, All-weaker}
use Rattle.report_text.specs.model.History.{event}
use Rattle.report_text.specs.model.events.Checks.{Check, check_after, last_check}
use Rattle.report_text.specs.model.events.Inode.{Inode}
use Rattle.report_text.specs.model.events.declared.deed.Deed.{Deed}
use Rattle.report_text.specs.model.events.declared.deed.Deed.TheVariants as deed
use Rattle.report_text.specs.model.events.declared.told.Event.{Event}
use Rattle.report_text.specs.model.events.declared.told.Told.{Told}
use Rattle.report_text.specs.model.events.meta.declared.step.Who.{Who}
use Rattle.report_text.specs.model.events.templates.declared.entry.Entry.{Entry}
use Rattle.order_outcomes.specs.Calls.{place_told}
use Rattle.order_outcomes.proofs.alike.InodeIntegrity.{collecting_begun, digests_begun}
use Rattle.order_outcomes.proofs.alike.InodeLaws.{IsUsed, deed_named, file_in}
use Rattle.order_outcomes.proofs.alike.InodePlaces.{IsPlaced}
use Rattle.order_outcomes.specs.alike.Alike.{IsSound, places_in, unchecked, with_place}

-- ---- files

-- a check names a file that was counted before
abbrev pub ChecksBelow : ℕ → Deed → Type 0
ChecksBelow n (deed.Check file func action rules) = file < n
ChecksBelow n d = Unit {0}

-- if every used file was
pub checks_below : (used : ℕ → Bool) (n : ℕ) (d : Deed)
    → ((file : ℕ) → used file ≡ true → file < n) → IsUsed used (file_in d) → ChecksBelow n d
checks_below used n (deed.Check file func action rules) below u = below file u
checks_below used n d below u = tt

-- and so under its other name
pub checks_below_named : (used : ℕ → Bool) (r : ℕ → ℕ) (n : ℕ) (d : Deed)
    → ((file : ℕ) → used file ≡ true → r file < n) → IsUsed used (file_in d)
    → ChecksBelow n (deed_named r d)
checks_below_named used r n (deed.Check file func action rules) below u = below file u
checks_below_named used r n d below u = tt

-- the event leaves files that aren't counted yet unchecked
unchecked_after : (n : ℕ) (d : Deed) → ChecksBelow n d → (file : ℕ) → suc n ≤ file
    → (old : Check) → old ≡ unchecked → check_after file d old ≡ unchecked
unchecked_after n (deed.Check other func action rules) b file h old e =
    cond-false (other == file) (record { func = func; action = action }) old
    (ne_eqb other file (λ same. omega arith)) ∙ e
unchecked_after n d b file h old e = e

-- ---- places

-- places in a list are in a longer one
places_more : (n m : ℕ) (places : List ℕ) → n ≤ m → All (λ place. place < n) places
    → All (λ place. place < m) places
places_more n m places le h =
    All-weaker (λ (x : ℕ). x < n) (λ (x : ℕ). x < m) (λ x b. omega arith) places h

-- one more place
places_with : (m : ℕ) (o : Option ℕ) (places : List ℕ) → IsPlaced m o
    → All (λ place. place < m) places → All (λ place. place < m) (with_place o places)
places_with m None places b h = h
places_with m (Some place) places b h = All-cons (λ (x : ℕ). x < m) place places b h

-- ---- a journal

-- one more event
pub sound_grown : (inode : Inode) (list list2 : List Entry) (p : List Event) (who : Who) (d : Deed)
    (t : Told) → length list ≤ length list2 → ChecksBelow (length p) d
    → IsPlaced (length list2) (place_told t) → IsSound inode list p
    → IsSound inode list2 (event who d t ∷ p)
sound_grown inode list list2 p who d t longer below placed s = record {
  files = λ file h. unchecked_after (length p) d below file h (last_check file p)
      (s.files file (omega arith));
  collection = collecting_begun inode d t p s.collection;
  digests = digests_begun inode d t p s.collection s.digests;
  places = places_with (length list2) (place_told t) (places_in p) placed
      (places_more (length list) (length list2) (places_in p) longer s.places);
}

-- a longer list
pub sound_longer : (inode : Inode) (list list2 : List Entry) (p : List Event)
    → length list ≤ length list2 → IsSound inode list p → IsSound inode list2 p
sound_longer inode list list2 p longer s = record {
  files = s.files;
  collection = s.collection;
  digests = s.digests;
  places = places_more (length list) (length list2) (places_in p) longer s.places;
}
