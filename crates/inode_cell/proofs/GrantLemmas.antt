-- Lemmas for the grants of takes and finishes.
use Rattle.std.proofs.Common.{◌≡◌, ℕ, Bool, true, false, cond, List, Option, Some, None, refl, sym, ◌∙◌, ap, subst}
use Rattle.std.specs.Prelude.{is_none, is_some, option_map}
use Rattle.std.proofs.lemmas.Option.{same_Some}
use Rattle.hash_algos.specs.Digest.{digest_of}
use Rattle.hash_algos.specs.declared.algo.Algo.TheVariants.{Sha1}
use Rattle.hash_algos.specs.declared.digest.Digest.{Digest}
use Rattle.ima_templates.specs.Entries.{entry_of}
use Rattle.ima_templates.specs.declared.entry.Entry.{Entry}
use Rattle.ima_templates.specs.declared.entry.Placed.{Placed}
use Rattle.inode_events.specs.Asked.{measured_if}
use Rattle.inode_events.specs.Checks.{last_check}
use Rattle.inode_events.specs.Grants.{grant_of}
use Rattle.inode_events.specs.Inode.{Inode}
use Rattle.inode_meta.specs.declared.identity.Meta.{Meta}
use Rattle.inode_meta.specs.declared.step.Who.{Who}
use Rattle.xattr_store.specs.Attrs.{Pair}
use Rattle.inode_answers.specs.Changes.{mended_on}
use Rattle.inode_events.specs.Integrity.{Collection, Digests, collecting, digest_from, digests_of, fixed_by, label}
use Rattle.inode_events.specs.Legal.{EachFollows, May}
use Rattle.inode_events.specs.Listing.{signature_in, template_for}
use Rattle.inode_events.specs.NewestFirst.{newest_first}
use Rattle.inode_events.specs.Says.{finish_told, take_told, unless_collecting}
use Rattle.inode_events.specs.Stage.{is_collecting, stage}
use Rattle.inode_events.specs.declared.deed.Deed.{Deed}
use Rattle.inode_events.specs.declared.deed.Deed.TheVariants as deed
use Rattle.inode_events.specs.declared.told.Event.{Event}
use Rattle.inode_events.specs.declared.told.Grant.{Grant}
use Rattle.inode_events.specs.declared.told.Told.TheVariants as told
use Rattle.inode_state.specs.Collecting.{HasAsked, IfAsked, IsAsked, Short, short_of, short_seen, shortened, shorts_seen, asked_in}
use Rattle.inode_state.specs.InForce.{sums_of}
use Rattle.inode_state.specs.declared.collecting.Asked.{Asked}
use Rattle.inode_state.specs.declared.collecting.Collecting.{Collecting}
use Rattle.inode_state.specs.declared.facts.Facts.{Facts}
use Rattle.inode_state.specs.declared.in_force.Sums.{Sums}
use Rattle.inode_state.specs.laws_of_journals.Standing.{collecting_stage}
use Rattle.inode_state.proofs.laws_of_journals.Stages.{Collects, StageIs, stage_collects}
use Rattle.inode_cell.specs.Granting.{IsEntering, IsGranting, collected_stage, digests_in, placing, sums_in, sums_in_force}
use Rattle.inode_cell.specs.Pieces.{IsPieceDeed}
use Rattle.inode_cell.specs.Value.{CellValue, IsSameCell}
use Rattle.inode_cell.proofs.Acting.{same_value}

-- a property of the journal still holds once room is made
pub moved : (old mid inner : CellValue) → mid.list ≡ old.list → IsSameCell old mid → inner ≡ mid
    → (P : Inode → List Event → Type 0)
    → P old.inode (newest_first old.list) → P inner.inode (newest_first inner.list)
moved old mid inner l s e P x =
    subst (λ (v : CellValue). P v.inode (newest_first v.list)) (sym e)
    (subst (λ (v : CellValue). P v.inode (newest_first v.list)) (sym (same_value old mid l s)) x)

-- the attributes that mode fix leaves are those that the journal defines
pub mended_is : (i : Inode) (mends : Bool) (digest : Digest) (meta : Meta) (attrs : List Pair)
    → mended_on i.settings.evm mends digest meta attrs
    ≡ fixed_by i mends (Some digest) meta attrs
mended_is i true digest meta attrs = refl
mended_is i false digest meta attrs = refl

-- a grant answered as the journal defines is entered with the entry that it asks for
pub entering : (i : Inode) (p : List Event) (who : Who) (d : Deed) (file : ℕ) (a : Asked) (sums :
    Sums) (g : Grant) (e : Option Entry) (k : Facts) → IsGranting i p who d file a sums k
    → ((placed : Placed) → placing a.action placed g ≡ grant_of i file placed sums.digest p)
    → e ≡ measured_if (last_check file p).action.measure i file (Some (digests_in sums)) p
    → IsEntering i p who d a.action sums.digest g e k
entering i p who d file a sums g e k x answered measured = record {
  tells = λ placed. x.tells placed
      ∙ ap (λ (h : Grant). Some (told.Grant h)) (sym (answered placed));
  lists = measured ∙ sym x.asks;
  leaves = x.leaves;
  keeps = x.keeps;
  facts = x.facts;
}

-- an option isn't both `None` and `Some`
none_some : (o : Option Collection) (c : Collection) → o ≡ None → o ≡ Some c → ⊥
none_some None c a b = cc
none_some (Some d) c a b = cc

-- ---- a take

pub take_begins : (i : Inode) (file : ℕ) (placed : Placed) (p : List Event) (c : Option Collection)
    (f : Option Digests) → is_some c ≡ false → sums_in_force f ≡ None
    → unless_collecting c (take_told i file placed f p) ≡ Some told.Begun
take_begins i file placed p (Some c) f a b = cc
take_begins i file placed p None (Some f) a b = cc
take_begins i file placed p None None a b = refl

pub take_asks_none : (i : Inode) (file : ℕ) (p : List Event) (m : Bool) (c : Option Collection) (f
    : Option Digests) → sums_in_force f ≡ None
    → cond (is_some c) None (measured_if m i file f p) ≡ None
take_asks_none i file p m (Some c) f b = refl
take_asks_none i file p m None (Some f) b = cc
take_asks_none i file p true None None b = refl
take_asks_none i file p false None None b = refl

pub take_tells : (i : Inode) (file : ℕ) (placed : Placed) (p : List Event) (sums : Sums) (c :
    Option Collection) (f : Option Digests) → is_some c ≡ false
    → sums_in_force f ≡ Some sums → unless_collecting c (take_told i file placed f p) ≡ Some
    (told.Grant (grant_of i file placed sums.digest p))
take_tells i file placed p sums (Some c) f a b = cc
take_tells i file placed p sums None None a b = cc
take_tells i file placed p sums None (Some f) a b =
    ap (λ (s : Sums). Some (told.Grant (grant_of i file placed s.digest p))) (same_Some (sums_in f)
    sums b)

-- the entry doesn't depend on the begin of its digests
measured_same : (i : Inode) (file : ℕ) (p : List Event) (m : Bool) (f : Digests) (sums : Sums)
    → sums_in f ≡ sums
    → measured_if m i file (Some f) p ≡ measured_if m i file (Some (digests_in sums)) p
measured_same i file p false f sums e = refl
measured_same i file p true f sums e =
    ap (λ (s : Sums). Some (entry_of (last_check file p).action.pcr (template_for i (last_check
    file p).action) s.digest s.sha1 i.path (signature_in (label i p)))) e

pub take_asks : (i : Inode) (file : ℕ) (p : List Event) (m : Bool) (sums : Sums) (c : Option
    Collection) (f : Option Digests) → is_some c ≡ false
    → sums_in_force f ≡ Some sums → cond (is_some c) None (measured_if m i file f p) ≡ measured_if
    m i file (Some (digests_in sums)) p
take_asks i file p m sums (Some c) f a b = cc
take_asks i file p m sums None None a b = cc
take_asks i file p m sums None (Some f) a b = measured_same i file p m f sums (same_Some (sums_in
    f) sums b)

pub take_digest : (sums : Sums) (f : Option Digests) → sums_in_force f ≡ Some sums
    → option_map (λ (d : Digests). d.digest) f ≡ Some sums.digest
take_digest sums None b = cc
take_digest sums (Some f) b = ap (λ (s : Sums). Some s.digest) (same_Some (sums_in f) sums b)

-- ---- a finish

abbrev Ends : Digest × Digest → Option Collection → Type 0
Ends sums o = (c : Collection) → o ≡ Some c → (sums.0 ≡ digest_from c)
    × (sums.1 ≡ digest_of Sha1 c.bytes)

pub finish_tells : (i : Inode) (file : ℕ) (placed : Placed) (p : List Event) (sums : Digest
    × Digest) (o : Option Collection) → Collects file o → Ends sums o
    → finish_told i file placed o p ≡ Some (told.Grant (grant_of i file placed sums.0 p))
finish_tells i file placed p sums None h s = absurd h
finish_tells i file placed p sums (Some c) h s = ap (λ (d : Digest). Some (told.Grant (grant_of i
    file placed d p))) (sym ((s c refl).0))

pub finish_asks : (i : Inode) (file : ℕ) (p : List Event) (m : Bool) (sums : Digest
    × Digest) (o : Option Collection) → Collects file o → Ends sums o
    → measured_if m i file (option_map digests_of o) p ≡ measured_if m i file (Some (digests_in
    (record { digest = sums.0; sha1 = sums.1 }))) p
finish_asks i file p m sums None h s = absurd h
finish_asks i file p m sums (Some c) h s =
    let a = sym ((s c refl).0) in
    let b = sym ((s c refl).1) in
    measured_same i file p m (digests_of c) (record { digest = sums.0; sha1 = sums.1 }) (λ j.
    record { digest = a j; sha1 = b j })

pub finish_digest : (file : ℕ) (sums : Digest × Digest) (o : Option Collection) → Collects file o
    → Ends sums o → option_map digest_from o ≡ Some sums.0
finish_digest file sums None h s = absurd h
finish_digest file sums (Some c) h s = ap Some (sym ((s c refl).0))

pub finish_sums : (file : ℕ) (sums : Digest × Digest) (o : Option Collection) → Collects file o
    → Ends sums o
    → option_map sums_of o ≡ Some (record { digest = sums.0; sha1 = sums.1 })
finish_sums file sums None h s = absurd h
finish_sums file sums (Some c) h s =
    let a = sym ((s c refl).0) in
    let b = sym ((s c refl).1) in
    λ j. Some (record { digest = a j; sha1 = b j })

-- the open collection holds what was asked of its file
pub asked_of_open : (file : ℕ) (p : List Event) (o : Option Collecting) (k : Option Collection)
    → shorts_seen o ≡ shortened k → Collects file k → HasAsked p o
    → (a : Asked) → asked_in o ≡ Some a → IsAsked (last_check file p) a
asked_of_open file p None k e h s a r = cc
asked_of_open file p (Some o) None e h s a r = absurd h
asked_of_open file p (Some o) (Some k) e h s a r =
    let at : o.file ≡ file = ap (λ (x : Short). x.file) (same_Some (short_seen o) (short_of k) e)
    ∙ h in
    let x : IfAsked (last_check file p) o.asked = subst (λ (f : ℕ). IfAsked (last_check f p)
    o.asked) at s in
    subst (λ (y : Option Asked). IfAsked (last_check file p) y) r x

-- a file whose take's collection is complete isn't in the collection of a close
no_close : (b : Bool) → collected_stage ≡ collecting_stage true b → ⊥
no_close true e = cc
no_close false e = cc

-- if a take's collection has its last piece, a check asked for it
pub asked_there : (i : Inode) (file : ℕ) (p : List Event) (o : Option Collecting) (k : Option
    Collection) → shorts_seen o ≡ shortened k → Collects file k → StageIs i p k
    → stage i file p ≡ collected_stage → asked_in o ≡ None → ⊥
asked_there i file p o None e h st is none = absurd h
asked_there i file p None (Some k) e h st is none = cc
asked_there i file p (Some o) (Some k) e h st is none =
    let closing : k.closing ≡ true = ap (λ (x : Short). x.closing) (sym (same_Some (short_seen o)
    (short_of k) e)) ∙ ap is_none none in
    let at : stage i file p ≡ collecting_stage k.closing k.complete = subst (λ (f : ℕ). stage i f p
    ≡ collecting_stage k.closing k.complete) h st.0 in
    no_close k.complete (sym is ∙ at ∙ ap (λ (b : Bool). collecting_stage b k.complete) closing)

-- ---- pieces

-- if a deed may take a piece, a collection is open
pub piece_open : (i : Inode) (p : List Event) (d : Deed) → EachFollows i p → May i p d
    → IsPieceDeed d → collecting i p ≡ None → ⊥
piece_open i p (deed.Chunk file) legal may piece none =
    let there = stage_collects i p file legal (ap is_collecting may) in
    none_some (collecting i p) there.0 none there.1.0
piece_open i p (deed.CloseChunk file) legal may piece none =
    let there = stage_collects i p file legal (ap is_collecting may) in
    none_some (collecting i p) there.0 none there.1.0
piece_open i p d legal may piece none = absurd piece

-- if the state has no open collection, the journal has none
pub none_open : (k : Option Collection) → shorts_seen None ≡ shortened k → k ≡ None
none_open None e = refl
none_open (Some k) e = cc
