-- The entries of a shown run's list: the boot aggregate, and those that the events added.
use Rattle.std.proofs.Common.{◌≡◌, ℕ, ◌<◌, ◌==◌, Bool, true, false, List, [], ◌∷◌, ◌++◌, Option, Some, None, refl, sym, ap, ◌∙◌, subst, inl, inr, arith}
use Rattle.std.specs.Prelude.{All, if◌then◌else◌, option_map, slice_get, sum_by}
use Rattle.std.proofs.lemmas.Bool.{cases_Bool}
use Rattle.std.proofs.lemmas.Bool.Decides.{nat_tests}
use Rattle.std.proofs.lemmas.List.{length-replicate}
use Rattle.std.proofs.lemmas.List.Elements.{All-cons, All-head, All-nil, All-tail}
use Rattle.std.proofs.lemmas.List.Sums.{sum_by-cons}
use Rattle.std.proofs.lemmas.Option.{get_or_from_slice_get}
use Rattle.hash_algos.specs.Algo.{algo_size}
use Rattle.hash_algos.specs.Digest.{HasDigestSize, digest_of, zero_digest}
use Rattle.hash_algos.specs.declared.algo.Algo.{Algo}
use Rattle.hash_algos.specs.declared.algo.Algo.TheVariants.{Sha1}
use Rattle.ima_templates.proofs.DataLemmas.{IsNamed, entry_named}
use Rattle.ima_templates.specs.Path.{IsMeasuredPath}
use Rattle.ima_templates.specs.Shown.{shown_digest}
use Rattle.ima_templates.specs.declared.entry.Entry.{Entry}
use Rattle.ima_templates.specs.declared.entry.Placed.{Placed}
use Rattle.ima_templates.specs.declared.entry.Placed.TheVariants.{Added}
use Rattle.inode_meta.specs.declared.measurement.Template.{Template}
use Rattle.inode_meta.specs.declared.measurement.Template.TheVariants.{Ima, ImaNg, ImaSig, ImaBuf}
use Rattle.inode_meta.specs.declared.step.Who.{Who}
use Rattle.inode_events.specs.Inode.{Inode}
use Rattle.inode_events.specs.Integrity.{Collection, Digests, Integrity, collecting, digests_given, digests_of, in_force, integrity, voids_digest}
use Rattle.inode_events.specs.Listing.{IsListed, Listed, StandsIn, added_at, adds, violated}
use Rattle.inode_events.specs.Merged.{IsMerged, Journal, Named, named, places_added, times_added}
use Rattle.inode_events.specs.declared.deed.Deed.{Deed}
use Rattle.inode_events.specs.declared.deed.Deed.TheVariants as deed
use Rattle.inode_events.specs.declared.told.Event.{Event}
use Rattle.inode_events.specs.declared.told.Told.{Told}
use Rattle.inode_events.specs.declared.told.Told.TheVariants as told
use Rattle.journal_laws.proofs.Covering.{graphic_shown, measured_named, short_shown}
use Rattle.call_steps.specs.declared.ending.Ending.{Ending}
use Rattle.run_model.specs.Scene.{Scene, ScriptFile}
use Rattle.run_model.specs.Served.{Run}
use Rattle.run_model.specs.Shown.{IsShown, journals_of}
use Rattle.run_laws.specs.shown.Places.{HasForms}

-- ---- digests

-- the two digests are hashes of the same bytes
record IsHashed (x : Digests) : Type 0 where
  algo : Algo
  bytes : List ℕ
  digest : x.digest ≡ digest_of algo bytes
  sha1 : x.sha1 ≡ digest_of Sha1 bytes

abbrev AreHashed : Option Digests → Type 0
AreHashed None = Unit {0}
AreHashed (Some x) = IsHashed x

-- the digests of a collection are hashes of its bytes
collection_hashed : (o : Option Collection) → AreHashed (option_map digests_of o)
collection_hashed None = tt
collection_hashed (Some c) =
    record { algo = c.algo; bytes = c.bytes; digest = refl; sha1 = refl }

-- the digests that come into force are hashes
given_hashed : (d : Deed) (t : Told) (old : Integrity) → AreHashed old.digests
    → AreHashed (digests_given d t old)
given_hashed (deed.Finish file) (told.Grant grant) old h = collection_hashed old.collecting
given_hashed d t old h = h

-- voiding digests leaves none
voided_hashed : (b : Bool) (o : Option Digests) → AreHashed o → AreHashed (if b then None else o)
voided_hashed true o h = tt
voided_hashed false o h = h

-- the digests in force are hashes
force_hashed : (i : Inode) (p : List Event) → AreHashed (in_force i p)
force_hashed i [] = tt
force_hashed i (e ∷ p) =
    voided_hashed (voids_digest e.deed e.told p (in_force i p))
    (digests_given e.deed e.told (integrity i p))
    (given_hashed e.deed e.told (integrity i p) (force_hashed i p))

-- ---- the entries that events add

-- P holds of the entry that an event adds, if it adds one
abbrev IfAdded : (Entry → Type 0) → Option Listed → Type 0
IfAdded P None = Unit {0}
IfAdded P (Some listed) = P listed.1

-- the entry of a grant is named
measured_added : (i : Inode) (file : ℕ) (p : List Event) (o : Option Placed) (x : Option Digests)
    → IsMeasuredPath Ima i.path → AreHashed x → IfAdded IsNamed (added_at o x i file p)
measured_added i file p (Some (Added place)) (Some x) path h =
    measured_named i file x p h.algo h.bytes h.digest h.sha1 path
measured_added i file p _ _ path h = tt

-- a digest of zeros has its algorithm's size under each template
zeros_size : (t : Template) (algo : Algo)
    → HasDigestSize (shown_digest t (zero_digest algo) (zero_digest Sha1))
zeros_size Ima algo = refl
zeros_size ImaNg algo = length-replicate {A = ℕ} (algo_size algo) 0
zeros_size ImaSig algo = length-replicate {A = ℕ} (algo_size algo) 0
zeros_size ImaBuf algo = length-replicate {A = ℕ} (algo_size algo) 0

-- a violation is named
violated_named : (i : Inode) → IsMeasuredPath Ima i.path → IsNamed (violated i)
violated_named i path = record {
  digest_size = zeros_size i.settings.template i.settings.hash;
  digest_of_ima = λ is. ap (λ (t : Template). (shown_digest t (zero_digest i.settings.hash)
      (zero_digest Sha1)).algo) is;
  name_at_most = short_shown i.settings.template i.path path.at_most (path.component refl).1;
  name_graphic = graphic_shown i.settings.template i.path path.graphic;
}

-- the entry that any event adds is named
added_named : (i : Inode) (d : Deed) (t : Told) (p : List Event) → IsMeasuredPath Ima i.path
    → IfAdded IsNamed (adds i d t p)
added_named i (deed.Check file func action rules) (told.OpenWriters place) p path =
    violated_named i path
added_named i (deed.Check file func action rules) (told.ToMToU place) p path =
    violated_named i path
added_named i (deed.Take file) (told.Grant grant) p path =
    measured_added i file p grant.placed (in_force i p) path (force_hashed i p)
added_named i (deed.Finish file) (told.Grant grant) p path =
    measured_added i file p grant.placed (option_map digests_of (collecting i p)) path
    (collection_hashed (collecting i p))
added_named i d t p path = tt

-- ---- the list

-- the list has an entry at this place, and P holds of it
record HoldsAt (P : Entry → Type 0) (list : List Entry) (place : ℕ) : Type 0 where
  entry : Entry
  at : slice_get list place ≡ Some entry
  holds : P entry

-- if this event or an earlier one adds an entry at the place, P holds of the entry there
event_holds : (P : Entry → Type 0) (list : List Entry) (place : ℕ) (w : Who) (o : Option Listed)
    (rest : List Named) → StandsIn list o → IfAdded P o
    → (0 < times_added place rest → HoldsAt P list place)
    → 0 < times_added place (named w o ++ rest) → HoldsAt P list place
event_holds P list place w None rest st p earlier lt = earlier lt
event_holds P list place w (Some l) rest st p earlier lt = elim (cases_Bool (l.0 == place)) [
  | inl eq ↦
      let is : l.0 ≡ place = grind (arith, nat_tests) in
      record { entry = l.1; at = ap (slice_get list) (sym is) ∙ st; holds = p }
  | inr ne ↦ earlier (rw ne at lt)
]

-- P holds of the entry that a journal adds at the place
journal_holds : (P : Entry → Type 0) (list : List Entry) (place : ℕ) (i : Inode)
    → ((d : Deed) (t : Told) (p : List Event) → IfAdded P (adds i d t p)) → (es : List Event)
    → IsListed i list es → 0 < times_added place (places_added i es) → HoldsAt P list place
journal_holds P list place i each [] listed lt = absurd (omega (arith, lt))
journal_holds P list place i each (e ∷ es) listed lt =
    event_holds P list place e.who (adds i e.deed e.told es) (places_added i es) listed.0
    (each e.deed e.told es) (journal_holds P list place i each es listed.2) lt

-- P holds of the entry that one of the journals adds at the place
journals_hold : (P : Entry → Type 0) (list : List Entry) (place : ℕ) (js : List Journal)
    → All (λ (j : Journal). (d : Deed) (t : Told) (p : List Event) → IfAdded P (adds j.inode d t p))
    js → All (λ (j : Journal). IsListed j.inode list j.events) js
    → 0 < sum_by (λ (j : Journal). times_added place (places_added j.inode j.events)) js
    → HoldsAt P list place
journals_hold P list place [] each listed lt = absurd (omega (arith, lt))
journals_hold P list place (j ∷ js) each listed lt =
    let Each : Journal → Type 0 =
    λ k. (d : Deed) (t : Told) (p : List Event) → IfAdded P (adds k.inode d t p) in
    let sum = sum_by-cons (λ (k : Journal). times_added place (places_added k.inode k.events)) j js
    in
    elim (cases_Bool (times_added place (places_added j.inode j.events) == 0)) [
      | inl z ↦
          let none : times_added place (places_added j.inode j.events)
          ≡ 0 = grind (arith, nat_tests) in
          journals_hold P list place js (All-tail Each j js each)
          (All-tail (λ (k : Journal). IsListed k.inode list k.events) j js listed)
          (omega (arith, lt, sum, none))
      | inr s ↦
          let some : 0 < times_added place (places_added j.inode j.events) =
          grind (arith, nat_tests) in
          journal_holds P list place j.inode (All-head Each j js each) j.events
          (All-head (λ (k : Journal). IsListed k.inode list k.events) j js listed) some
    ]

-- what holds of the first entry and of each entry that the journals add holds of the whole list
list_holds : (P : Entry → Type 0) (boot : Entry) (list : List Entry) (js : List Journal)
    → IsMerged boot list js → P boot
    → All (λ (j : Journal). (d : Deed) (t : Told) (p : List Event) → IfAdded P (adds j.inode d t p))
    js → All P list
list_holds P boot list js merged first each = λ place d below. elim (cases_Bool (place == 0)) [
  | inl z ↦
      let is : place ≡ 0 = grind (arith, nat_tests) in
      subst P (sym (get_or_from_slice_get list place boot d (ap (slice_get list) is
      ∙ merged.first))) first
  | inr s ↦
      let one : sum_by (λ (j : Journal). times_added place (places_added j.inode j.events)) js ≡ 1 =
      rw s at (merged.once place below) in
      let h = journals_hold P list place js each merged.listed (omega (arith, one)) in
      subst P (sym (get_or_from_slice_get list place h.entry d h.at)) h.holds
]

-- what holds of the paths of the files holds of those of the journals
journals_each : (scene : Scene) (ss : List ScriptFile) (js : List (List Event))
    → All (λ (s : ScriptFile). IsMeasuredPath Ima s.path) ss
    → All (λ (j : Journal). (d : Deed) (t : Told) (p : List Event)
    → IfAdded IsNamed (adds j.inode d t p)) (journals_of scene ss js)
journals_each scene [] js h = All-nil _
journals_each scene (s ∷ ss) [] h = All-nil _
journals_each scene (s ∷ ss) (j ∷ js) h =
    All-cons (λ (k : Journal). (d : Deed) (t : Told) (p : List Event)
    → IfAdded IsNamed (adds k.inode d t p)) _ (journals_of scene ss js)
    (λ d t p. added_named _ d t p (All-head (λ (x : ScriptFile). IsMeasuredPath Ima x.path) s ss h))
    (journals_each scene ss js (All-tail (λ (x : ScriptFile). IsMeasuredPath Ima x.path) s ss h))

-- the entries of a shown run's list are named
pub list_named : (scene : Scene) (ending : Ending) (run : Run) → HasForms scene
    → IsShown scene ending run → All IsNamed run.list
list_named scene ending run forms shown =
    list_holds IsNamed scene.boot run.list (journals_of scene scene.script_files run.journals)
    shown.merged (entry_named scene.boot forms.boot)
    (journals_each scene scene.script_files run.journals forms.paths)
