-- One step of a cell.
use Rattle.std.proofs.Common.{◌≡◌, ℕ, Bool, true, false, cond, List, [], ◌∷◌, ◌++◌, length, Option, Some, None, refl, sym, ◌∙◌, ap, subst}
use Rattle.std.specs.Prelude.{nat_le, nat_lt, ◌<◌, ◌≤◌, ◌&&◌}
use Rattle.std.proofs.lemmas.Bool.{leb-false}
use Rattle.inode_pages.specs.Content.{most_bytes}
use Rattle.inode_pages.specs.declared.content.PageErr.TheVariants.{TooBig}
use Rattle.std.specs.Prelude.{IsErrOf, Ok}
use Rattle.hash_algos.specs.declared.digest.Digest.{Digest}
use Rattle.ima_templates.specs.declared.entry.Entry.{Entry}
use Rattle.ima_templates.specs.declared.entry.Placed.{Placed}
use Rattle.ima_templates.specs.declared.entry.Placed.TheVariants.{Added}
use Rattle.ima_templates.specs.Path.{IsMeasuredPath}
use Rattle.inode_meta.specs.declared.measurement.Template.TheVariants.{Ima}
use Rattle.inode_meta.specs.declared.step.Who.{Who}
use Rattle.inode_events.specs.Asked.{asked, outcome, placed_for}
use Rattle.inode_events.specs.Checks.{last_check}
use Rattle.inode_events.specs.Files.{is_writing, readers, writers}
use Rattle.inode_events.specs.Marks.{must_measure}
use Rattle.inode_events.specs.Grants.{grant_of}
use Rattle.inode_events.specs.Inode.{Inode, nobody}
use Rattle.inode_events.specs.Integrity.{Collection, Digests, attributes_after, collecting, digest_from, in_force, integrity}
use Rattle.inode_events.specs.Listing.{Listed}
use Rattle.inode_events.specs.NewestFirst.{newest_first, past_more}
use Rattle.inode_events.specs.Says.{check_told, finish_told, write_told, place_of, placed_in, placed_in_grant, says, take_told, unless_collecting}
use Rattle.inode_events.specs.State.{content, content_after}
use Rattle.inode_events.specs.declared.deed.Deed.{Deed}
use Rattle.inode_events.specs.declared.deed.Deed.TheVariants as deed
use Rattle.inode_events.specs.declared.told.Event.{Event}
use Rattle.inode_events.specs.declared.told.Grant.{Grant}
use Rattle.inode_events.specs.declared.told.Told.{Told}
use Rattle.inode_events.specs.declared.told.Told.TheVariants as told
use Rattle.std.proofs.lemmas.Option.{same_Some}
use Rattle.xattr_store.specs.Attrs.{Pair}
use Rattle.inode_state.specs.laws_of_journals.Booked.{Books, IsBooked}
use Rattle.inode_state.proofs.laws_of_journals.Keeping.{kept_birth, kept_look, kept_outcome}
use Rattle.inode_events.specs.declared.image.Image.{Image}
use Rattle.inode_state.proofs.Keeping.{past_one}
use Rattle.inode_state.specs.Value.{birth_of}
use Rattle.inode_cell.specs.Fields.{Holds}

-- ---- an outcome names its own place

checked_back : (w m : Bool) (r ws : ℕ) (must : Bool) (n : ℕ)
    → check_told w m r ws must (place_of (placed_in (check_told w m r ws must n))) ≡ check_told w m
    r ws must n
checked_back true m r ws must n = at (nat_lt 0 r && must) where
  at : (b : Bool) → cond b (told.ToMToU (place_of (placed_in (cond b (told.ToMToU n) told.Quiet))))
      told.Quiet ≡ cond b (told.ToMToU n) told.Quiet
  at true = refl
  at false = refl
checked_back false m r ws must n = at (m && nat_lt 0 ws) where
  at : (b : Bool) → cond b (told.OpenWriters (place_of (placed_in (cond b (told.OpenWriters n)
      told.Quiet)))) told.Quiet ≡ cond b (told.OpenWriters n) told.Quiet
  at true = refl
  at false = refl

granted_back : (i : Inode) (file : ℕ) (placed : Placed) (digest : Digest) (p : List Event)
    → grant_of i file (placed_in_grant (grant_of i file placed digest p).placed) digest p ≡
    grant_of i file placed digest p
granted_back i file placed digest p = ap (λ (x : Option Placed). record (grant_of i file placed
    digest p) { placed = x }) (again (last_check file p).action.measure) where
      again : (b : Bool) → cond b (Some (placed_in_grant (cond b (Some placed) None))) None ≡ cond b
          (Some placed) None
      again true = refl
      again false = refl

took_back : (i : Inode) (p : List Event) (file : ℕ) (placed : Placed) (t : Told) (c : Option
    Collection) (f : Option Digests)
    → unless_collecting c (take_told i file placed f p) ≡ Some t
    → unless_collecting c (take_told i file (placed_in t) f p) ≡ Some t
took_back i p file placed t (Some c) f e = cc
took_back i p file placed t None None e = e
took_back i p file placed t None (Some f) e =
    subst (λ (x : Told). Some (told.Grant (grant_of i file (placed_in x) f.digest p)) ≡ Some x)
    (same_Some (told.Grant (grant_of i file placed f.digest p)) t e)
    (ap (λ (g : Grant). Some (told.Grant g)) (granted_back i file placed f.digest p))

finished_back : (i : Inode) (p : List Event) (file : ℕ) (placed : Placed) (t : Told) (c : Option
    Collection)
    → finish_told i file placed c p ≡ Some t → finish_told i file (placed_in t) c p ≡ Some t
finished_back i p file placed t None e = cc
finished_back i p file placed t (Some c) e =
    subst (λ (x : Told). Some (told.Grant (grant_of i file (placed_in x) (digest_from c) p)) ≡ Some
    x) (same_Some (told.Grant (grant_of i file placed (digest_from c) p)) t e)
    (ap (λ (g : Grant). Some (told.Grant g)) (granted_back i file placed (digest_from c) p))

pub placed_back : (i : Inode) (p : List Event) (placed : Placed) (d : Deed) (t : Told)
    → says i p placed d ≡ Some t → says i p (placed_in t) d ≡ Some t
placed_back i p placed (deed.Check file func action rules) t e =
    subst (λ (x : Told). Some (check_told (is_writing file p) action.measure (readers p) (writers
    p) (must_measure p) (place_of (placed_in x))) ≡ Some x)
    (same_Some (check_told (is_writing file p) action.measure (readers p) (writers p) (must_measure
    p) (place_of placed)) t e)
    (ap Some (checked_back (is_writing file p) action.measure (readers p) (writers p) (must_measure
    p) (place_of placed)))
placed_back i p placed (deed.Take file) t e = took_back i p file placed t (collecting i p)
    (in_force i p) e
placed_back i p placed (deed.Finish file) t e = finished_back i p file placed t (collecting i p) e
placed_back i p placed d t e = e

-- the outcome of a deed that adds nothing to the measurement list
pub outcome_quiet : (i : Inode) (list : List Entry) (d : Deed) (p : List Event) (t : Told)
    → asked i d p ≡ None → says i p (Added 0) d ≡ Some t → outcome i list d p ≡ Some t
outcome_quiet i list d p t q e = subst (λ (o : Option Entry). says i p (placed_for list o) d ≡ Some
    t) (sym q) e

pub books_quiet : (i : Inode) (list seen : List Entry) (mine : List Listed) (d : Deed) (p : List
    Event) → asked i d p ≡ None → Books list (asked i d p) seen seen mine mine
books_quiet i list seen mine d p q = subst (λ (o : Option Entry). Books list o seen seen mine mine)
    (sym q) (refl, refl)

-- a write that isn't too big is done
pub written_told : (n : ℕ) → (most_bytes < n → ⊥) → Some (write_told n) ≡ Some told.Done
written_told n h = at (nat_le n most_bytes) refl where
  at : (b : Bool) → nat_le n most_bytes ≡ b
      → Some (cond (nat_le n most_bytes) told.Done told.TooBig) ≡ Some told.Done
  at true e = ap (λ (x : Bool). Some (cond x told.Done told.TooBig)) e
  at false e = absurd (h (leb-false n most_bytes e))

pub not_err : (u : Unit {0}) → IsErrOf (Ok u) TooBig → ⊥
not_err u e = cc

-- ---- the invariant of the cell

pub holds_on : (i : Inode) (list list' : List Event) (who : Who) (d : Deed) (t : Told) (bytes
    bytes' : List ℕ) (attrs attrs' : List Pair)
    (book seen seen' : List Entry) (mine mine' : List Listed)
    → Holds i (newest_first list) bytes attrs seen mine
    → list' ≡ list ++ record { who = who; deed = d; told = t } ∷ []
    → bytes' ≡ content_after d t (content (newest_first list))
    → attrs' ≡ attributes_after i d t (newest_first list) (integrity i (newest_first list))
    → Books book (asked i d (newest_first list)) seen seen' mine mine'
    → outcome i book d (newest_first list) ≡ Some t
    → Holds i (newest_first list') bytes' attrs' seen' mine'
holds_on i list list' who d t bytes bytes' attrs attrs' book seen seen' mine mine' h l b a s o =
    let p : newest_first list' ≡ record {
      who = who;
      deed = d;
      told = t;
    } ∷ newest_first list = ap newest_first l
    ∙ past_more list (record { who = who; deed = d; told = t }) in
    subst (λ (q : List Event). Holds i q bytes' attrs' seen' mine') (sym p) (record {
      path = h.path;
      small = h.small;
      content = b;
      attributes = a;
      booked = kept_outcome i (newest_first list) who d t book seen seen' mine mine' h.booked s o;
    })

-- the invariant of a cell holds after the birth
pub born_holds : (i : Inode) (list : List Event) (image : Image) (bytes : List ℕ) (attrs : List
    Pair) (seen : List Entry) (mine : List Listed)
    → IsMeasuredPath Ima i.path → length i.birth.content ≤ most_bytes → list ≡ birth_of image ∷ []
    → bytes ≡ image.content → attrs ≡ image.attrs → mine ≡ []
    → Holds i (newest_first list) bytes attrs seen mine
born_holds i list image bytes attrs seen mine path small l b a m =
    let p : newest_first list ≡ birth_of image ∷ [] =
    ap newest_first l ∙ past_one (birth_of image) in
    subst (λ (q : List Event). Holds i q bytes attrs seen mine) (sym p) (record {
      path = path;
      small = small;
      content = b;
      attributes = a;
      booked = subst (λ (x : List Listed). IsBooked i (birth_of image ∷ []) seen x) (sym m)
          (kept_look i (birth_of image ∷ []) [] seen [] (seen, refl) (kept_birth i nobody
          (told.Image image)));
    })
