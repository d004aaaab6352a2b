-- Coverage: every measuring check of a read-only file is answered before the file is read.
use Rattle.std.proofs.Common.{◌≡◌, ℕ, ◌<◌, ◌≤◌, Bool, true, false, ◌&&◌, not, cond, List, [], ◌∷◌, ◌++◌, length, get_or, Option, Some, None, refl, sym, ◌∙◌, ap, subst, arith, inl, inr, length-append}
use Rattle.std.specs.Prelude.{◌⊎◌, ◌==◌, All, Contains, nat_lt, option_map, slice_get}
use Rattle.std.proofs.lemmas.Bool.{and_parts, cond-true, cond-false, eqb-true, ltb-false, or_right}
use Rattle.hash_algos.specs.Digest.{digest_of}
use Rattle.hash_algos.specs.declared.algo.Algo.TheVariants.{Sha1}
use Rattle.ima_templates.proofs.DataLemmas.{IsNamed}
use Rattle.ima_templates.specs.Path.{IsMeasuredPath}
use Rattle.ima_templates.specs.declared.entry.Entry.{Entry}
use Rattle.ima_templates.specs.declared.entry.Placed.{Placed}
use Rattle.inode_meta.specs.declared.measurement.Template.TheVariants.{Ima}
use Rattle.inode_meta.specs.declared.step.Who.{Who}
use Rattle.inode_events.specs.Checks.{last_check}
use Rattle.inode_events.specs.Coverage.{IsAnswered, ShowsContent, ShowsViolation, grant_places, is_measuring, places_granted, places_violated, violation_places}
use Rattle.inode_events.specs.Files.{files, held, holds, is_reader, is_writer, is_writing, writers}
use Rattle.inode_events.specs.Grants.{grant_of}
use Rattle.inode_events.specs.Inode.{Inode}
use Rattle.inode_events.specs.Integrity.{Collection, Digests, chosen_algo, collecting, digest_from, in_force, digests_of}
use Rattle.inode_events.specs.Legal.{EachFollows, Follows}
use Rattle.inode_events.specs.Stage.{stage, is_gone}
use Rattle.inode_events.specs.Stage.{Settled}
use Rattle.inode_events.specs.Listing.{IsFirstIn, IsListed, Listed, StandsIn, added_at, adds, finds, found_at, violated}
use Rattle.inode_events.specs.Says.{check_told, place_of, placed_in}
use Rattle.inode_events.specs.State.{content, modified_since}
use Rattle.inode_events.specs.declared.deed.Deed.{Deed}
use Rattle.inode_events.specs.declared.deed.Deed.TheVariants as deed
use Rattle.inode_events.specs.declared.told.Event.{Event}
use Rattle.inode_events.specs.declared.told.Grant.{Grant}
use Rattle.inode_events.specs.declared.told.Told.{Told}
use Rattle.inode_events.specs.declared.told.Told.TheVariants as told
use Rattle.journal_laws.proofs.Fresh.{CollectionIs, DigestsIs, Fresh, finish_grants, take_grants}
use Rattle.journal_laws.proofs.FreshSteps.{collected_fresh, finished, freshness_lem}
use Rattle.journal_laws.proofs.Guards.{CollectionClean, DigestsClean, Guarded, guard_step, held_same}
use Rattle.journal_laws.proofs.Lives.{alive_before, lives}
use Rattle.journal_laws.proofs.Small.{event}
use Rattle.journal_laws.proofs.Stages.{Stages, stages}
use Rattle.std.proofs.lemmas.List.Elements.{Contains-append_cases}
use Rattle.inode_events.specs.Coverage.{IsCovered}
use Rattle.inode_events.specs.Marks.{must_measure}
use Rattle.inode_events.specs.Files.{readers}
use Rattle.inode_events.specs.declared.deed.How.{How}
use Rattle.inode_events.specs.declared.deed.How.TheVariants as how
use Rattle.inode_events.specs.policy.declared.access.Action.{Action}
use Rattle.inode_events.specs.policy.declared.rule.Func.{Func}
use Rattle.journal_laws.proofs.Covering.{Progress, check_asks, is_owing, shows_listed, step}
use Rattle.journal_laws.proofs.Tallies.{tally_held}

-- ---- violations

-- the only element of a list of one is that one
contains_one : (place v : ℕ) → Contains (place ∷ []) v → place ≡ v
contains_one place v h =
    let z : h.0 ≡ 0 = omega (arith, h.1) in subst (λ (k : ℕ). get_or (place ∷ []) k v ≡ v) z h.2

-- an empty list contains nothing
pub contains_none : (v : ℕ) → Contains {X = ℕ} [] v → ⊥
contains_none v h = omega (arith, h.1)

-- the violation in an event's outcome is in the list
violation_shown : (i : Inode) (list : List Entry) (before : List Event) (d : Deed) (t : Told)
    (v : ℕ) → StandsIn list (adds i d t before) → Contains (violation_places d t) v
    → ShowsViolation i list v
violation_shown i list before (deed.Check g func action rules) (told.OpenWriters place) v s c =
    let e : place ≡ v = contains_one place v c in
    (violated i, (subst (λ (k : ℕ). slice_get list k ≡ Some (violated i)) e s, refl, refl))
violation_shown i list before (deed.Check g func action rules) (told.ToMToU place) v s c =
    let e : place ≡ v = contains_one place v c in
    (violated i, (subst (λ (k : ℕ). slice_get list k ≡ Some (violated i)) e s, refl, refl))
violation_shown i list before d t v s c = absurd (contains_none v c)

-- each violation in these events' outcomes is in the list
violations_shown : (i : Inode) (list : List Entry) (later : List Event) (check : Event)
    (before : List Event) (v : ℕ) → IsListed i list (later ++ check ∷ before)
    → Contains (places_violated (later ++ check ∷ [])) v → ShowsViolation i list v
violations_shown i list [] check before v l c =
    at (Contains-append_cases (violation_places check.deed check.told) [] v c) where
      at : Contains (violation_places check.deed check.told) v ⊎ Contains {X = ℕ} [] v
          → ShowsViolation i list v
      at (inl h) = violation_shown i list before check.deed check.told v l.0 h
      at (inr h) = absurd (contains_none v h)
violations_shown i list (e ∷ later) check before v l c =
    at (violations_shown i list later check before v l.2)
    (Contains-append_cases (violation_places e.deed e.told)
    (places_violated (later ++ check ∷ [])) v c) where
      at : (Contains (places_violated (later ++ check ∷ [])) v → ShowsViolation i list v)
          → Contains (violation_places e.deed e.told) v
          ⊎ Contains (places_violated (later ++ check ∷ [])) v → ShowsViolation i list v
      at ih (inl h) = violation_shown i list (later ++ check ∷ before) e.deed e.told v l.0 h
      at ih (inr h) = ih h

-- ---- from the check on

-- a file's place stays within a longer journal
longer : (f : ℕ) (later b : List Event) → f < length b → f < length (later ++ b)
longer f later b h = omega (arith, length-append later b)

-- after the check, the file is owed a grant or has had one
walk_any : (i : Inode) (f : ℕ) (b : List Event) (later : List Event) → EachFollows i (later ++ b)
    → f < length b → Progress (λ q. Unit {0}) i f b []
    → Progress (λ q. Unit {0}) i f (later ++ b) (places_granted f later)
walk_any i f b [] h l p = p
walk_any i f b (e ∷ later) h l p =
    step (λ q. Unit {0}) i f (later ++ b) e.who e.deed e.told (places_granted f later) h.0
    (longer f later b l) (λ grant placed a c d k. tt)
    (walk_any i f b later h.1 l p)

-- the content is these bytes, and nothing was written since the digests in force and the open
-- collection began
pub record Unwritten (i : Inode) (bytes : List ℕ) (p : List Event) : Type 0 where
  pub same : content p ≡ bytes
  pub clean_digests : DigestsClean p (in_force i p)
  pub clean_collecting : CollectionClean p (collecting i p)

-- while the guard holds, nothing was written
guarded_unwritten : (i : Inode) (bytes : List ℕ) (p : List Event) → Guarded i bytes p
    → Unwritten i bytes p
guarded_unwritten i bytes p gu =
    record {
      same = gu.same;
      clean_digests = gu.clean_digests;
      clean_collecting =
          gu.clean_collecting;
    }

-- the entry that a take's grant names shows the content
take_shows : (i : Inode) (list : List Entry) (f g : ℕ) (p : List Event) (bytes : List ℕ) (who : Who)
    (grant : Grant) (placed : Placed)
    → Follows i p who (deed.Take g) (told.Grant grant) → Fresh i p → Unwritten i bytes p
    → StandsIn list (adds i (deed.Take g) (told.Grant grant) p)
    → IsFirstIn list (finds i (deed.Take g) (told.Grant grant) p) → IsMeasuredPath Ima i.path
    → All IsNamed list
    → grant.placed ≡ Some placed → ShowsContent i list bytes (place_of placed)
take_shows i list f g p bytes who grant placed h fr gu st fi path kept names_it =
    let made : (x : Digests)
    × ((in_force i p ≡ Some x)
    × (grant_of i g (placed_in (told.Grant grant)) x.digest p ≡ grant)) =
    take_grants i p g (placed_in (told.Grant grant)) grant (collecting i p) (in_force i p) h.2 in
    at made.0 made.1.0 where
      at : (x : Digests) → in_force i p ≡ Some x → ShowsContent i list bytes (place_of placed)
      at x e =
          let fi' : DigestsIs i p (Some x) =
          subst (λ (o : Option Digests). DigestsIs i p o) e fr.digests_is in
          let clean : modified_since x.begin p ≡ false =
          subst (λ (o : Option Digests). DigestsClean p o) e gu.clean_digests in
          let ats : added_at grant.placed (in_force i p) i g p ≡ added_at (Some placed)
          (Some x) i g p =
          ap (λ (o : Option Placed). added_at o (in_force i p) i g p) names_it
          ∙ ap (λ (o : Option Digests). added_at (Some placed) o i g p) e in
          let founds : found_at grant.placed (in_force i p) i g p ≡ found_at (Some placed)
          (Some x) i g p =
          ap (λ (o : Option Placed). found_at o (in_force i p) i g p) names_it
          ∙ ap (λ (o : Option Digests). found_at (Some placed) o i g p) e in
          shows_listed i list g p x (chosen_algo i p) bytes placed
          ((fi'.2 clean).0 ∙ ap (digest_of (chosen_algo i p)) gu.same)
          ((fi'.2 clean).1 ∙ ap (digest_of Sha1) gu.same)
          (subst (λ (o : Option Listed). StandsIn list o) ats st)
          (subst (λ (o : Option Listed). IsFirstIn list o) founds fi) path kept

-- the entry that a finish's grant names shows the content
finish_shows : (i : Inode) (list : List Entry) (f g : ℕ) (p : List Event) (bytes : List ℕ)
    (who : Who) (grant : Grant) (placed : Placed)
    → Follows i p who (deed.Finish g) (told.Grant grant) → Stages i p → Fresh i p
    → Unwritten i bytes p
    → StandsIn list (adds i (deed.Finish g) (told.Grant grant) p)
    → IsFirstIn list (finds i (deed.Finish g) (told.Grant grant) p) → IsMeasuredPath Ima i.path
    → All IsNamed list
    → grant.placed ≡ Some placed → ShowsContent i list bytes (place_of placed)
finish_shows i list f g p bytes who grant placed h s fr gu st fi path kept names_it =
    let made : (c : Collection)
    × ((collecting i p ≡ Some c)
    × (grant_of i g (placed_in (told.Grant grant)) (digest_from c) p ≡ grant)) =
    finish_grants i p g (placed_in (told.Grant grant)) grant (collecting i p) h.2 in
    at made.0 made.1.0 where
      at : (c : Collection) → collecting i p ≡ Some c → ShowsContent i list bytes (place_of placed)
      at c e =
          let ends : (c.file ≡ g) × (c.closing ≡ false) × (c.complete ≡ true) =
          finished i p g false h.1 s c e in
          let ci : CollectionIs i p (Some c) =
          subst (λ (o : Option Collection). CollectionIs i p o) e fr.collection_is in
          let clean : modified_since c.begin p ≡ false =
          subst (λ (o : Option Collection). CollectionClean p o) e gu.clean_collecting in
          let from : option_map digests_of (collecting i p) ≡ Some (digests_of c) =
          ap (option_map digests_of) e in
          let ats : added_at grant.placed (option_map digests_of (collecting i p)) i g p ≡ added_at
          (Some placed) (Some (digests_of c)) i g p =
          ap (λ (o : Option Placed). added_at o (option_map digests_of (collecting i p)) i g p)
          names_it ∙ ap (λ (o : Option Digests). added_at (Some placed) o i g p) from in
          let founds : found_at grant.placed (option_map digests_of (collecting i p)) i g p
          ≡ found_at (Some placed) (Some (digests_of c)) i g p =
          ap (λ (o : Option Placed). found_at o (option_map digests_of (collecting i p)) i g p)
          names_it ∙ ap (λ (o : Option Digests). found_at (Some placed) o i g p) from in
          shows_listed i list g p (digests_of c) (chosen_algo i p) bytes placed
          (collected_fresh i p c ci ends.2 clean ends.1 ∙ ap (digest_of (chosen_algo i p)) gu.same)
          (ap (digest_of Sha1) ((ci.2 clean).1 ends.2) ∙ ap (digest_of Sha1) gu.same)
          (subst (λ (o : Option Listed). StandsIn list o) ats st)
          (subst (λ (o : Option Listed). IsFirstIn list o) founds fi) path kept

-- the entry that any grant of the file names shows the content
pub event_shows : (i : Inode) (list : List Entry) (f : ℕ) (p : List Event) (bytes : List ℕ) (who : Who)
    (d : Deed) (t : Told) (grant : Grant) (placed : Placed)
    → Follows i p who d t → Stages i p → Fresh i p → Unwritten i bytes p
    → StandsIn list (adds i d t p) → IsFirstIn list (finds i d t p) → IsMeasuredPath Ima i.path
    → All IsNamed list
    → t ≡ told.Grant grant → grant_places f d t ≡ place_of placed ∷ [] → grant.placed ≡ Some placed
    → ShowsContent i list bytes (place_of placed)
event_shows i list f p bytes who (deed.Take g) (told.Grant gr) grant placed h s fr gu st fi path
    kept e named names_it =
    let same : gr ≡ grant = cc in
    take_shows i list f g p bytes who gr placed h fr gu st fi path kept
    (ap (λ (x : Grant). x.placed) same ∙ names_it)
event_shows i list f p bytes who (deed.Finish g) (told.Grant gr) grant placed h s fr gu st fi path
    kept e named names_it =
    let same : gr ≡ grant = cc in
    finish_shows i list f g p bytes who gr placed h s fr gu st fi path kept
    (ap (λ (x : Grant). x.placed) same ∙ names_it)
event_shows i list f p bytes who d t grant placed h s fr gu st fi path kept e named names_it = cc

-- if two lists joined are empty, both are
nil_parts : (xs ys : List ℕ) → xs ++ ys ≡ [] → (xs ≡ []) × (ys ≡ [])
nil_parts [] ys h = (refl, h)
nil_parts (x ∷ xs) ys h = cc

-- after the check, nothing is written while no violation occurs
walk_guarded : (i : Inode) (list : List Entry) (f : ℕ) (check : Event) (before : List Event)
    (bytes : List ℕ) (later : List Event)
    → EachFollows i (later ++ check ∷ before) → f < length (check ∷ before)
    → places_violated (later ++ check ∷ []) ≡ []
    → is_gone (stage i f (later ++ check ∷ before)) ≡ false
    → holds is_reader (held f (later ++ check ∷ before)) ≡ true
    → IsListed i list (later ++ check ∷ before) → IsMeasuredPath Ima i.path → All IsNamed list
    → (violation_places check.deed check.told ≡ []
    → holds is_reader (held f (check ∷ before)) ≡ true → Guarded i bytes (check ∷ before))
    → Progress (ShowsContent i list bytes) i f (check ∷ before) []
    → Guarded i bytes (later ++ check ∷ before) × Progress (ShowsContent i list bytes) i f
    (later ++ check ∷ before) (places_granted f later)
walk_guarded i list f check before bytes [] h l v alive reads listed path kept base p =
    (base (nil_parts (violation_places check.deed check.told) [] v).0 reads, p)
walk_guarded i list f check before bytes (e ∷ later) h l v alive reads listed path kept base p =
    let lt : f < length (later ++ check ∷ before) = longer f later (check ∷ before) l in
    let was : is_gone (stage i f (later ++ check ∷ before)) ≡ false =
    alive_before i (later ++ check ∷ before) e.who e.deed e.told h.0 f lt alive in
    let reading : holds is_reader (held f (later ++ check ∷ before)) ≡ true =
    sym (ap (holds is_reader)
    (held_same i (later ++ check ∷ before) e.who e.deed e.told f lt alive)) ∙ reads in
    let parts : (violation_places e.deed e.told ≡ [])
    × (places_violated (later ++ check ∷ []) ≡ []) =
    nil_parts (violation_places e.deed e.told) (places_violated (later ++ check ∷ [])) v in
    let ih : Guarded i bytes (later ++ check ∷ before) × Progress (ShowsContent i list bytes) i f
    (later ++ check ∷ before) (places_granted f later) =
    walk_guarded i list f check before bytes later h.1 l parts.1 was reading listed.2 path kept base
    p in (
      guard_step i bytes (later ++ check ∷ before) e.who e.deed e.told f h.0
          (stages i (later ++ check ∷ before) h.1) reading parts.0 ih.0,
      step (ShowsContent i list bytes) i f (later ++ check ∷ before) e.who e.deed e.told
          (places_granted f later) h.0 lt
          (λ grant placed a n names_it k. event_shows i list f (later ++ check ∷ before) bytes e.who
          e.deed e.told grant placed h.0 (stages i (later ++ check ∷ before) h.1)
          (freshness_lem i (later ++ check ∷ before) h.1)
          (guarded_unwritten i bytes (later ++ check ∷ before) ih.0) listed.0 listed.1 path kept a n
          names_it) ih.1,
    )

-- ---- at the check

-- a reader isn't a writer
pub reader_no_writer : (o : Option How) → holds is_reader o ≡ true → holds is_writer o ≡ false
reader_no_writer None h = refl
reader_no_writer (Some (how.Read create)) h = refl
reader_no_writer (Some (how.Write read create)) h = cc
reader_no_writer (Some how.Exec) h = refl

-- if a measuring check of a reader finds no violation, there is no writer
quiet_check : (r w place : ℕ) (must : Bool) (g : ℕ) (func : Func) (action : Action) (rules : ℕ)
    (t : Told) → action.measure ≡ true
    → Some (check_told false action.measure r w must place) ≡ Some t
    → violation_places (deed.Check g func action rules) t ≡ [] → (t ≡ told.Quiet) × (w ≡ 0)
quiet_check r w place must g func action rules t m e v = at (nat_lt 0 w) refl where
  same : check_told false action.measure r w must place ≡ t
  same = cc

  at : (b : Bool) → nat_lt 0 w ≡ b → (t ≡ told.Quiet) × (w ≡ 0)
  at true q =
      let c : (action.measure && nat_lt 0 w) ≡ true = ap (λ (b : Bool). b && nat_lt 0 w) m ∙ q in
      let z : told.OpenWriters place ≡ t =
      sym (cond-true (action.measure && nat_lt 0 w) (told.OpenWriters place) told.Quiet c)
      ∙ same in
      let listed : violation_places (deed.Check g func action rules) t ≡ place ∷ [] =
      sym (ap (violation_places (deed.Check g func action rules)) z) in cc
  at false q =
      let c : (action.measure && nat_lt 0 w) ≡ false = ap (λ (b : Bool). b && nat_lt 0 w) m ∙ q in
      let none : w ≤ 0 = ltb-false 0 w q in (
        sym (sym (cond-false (action.measure && nat_lt 0 w) (told.OpenWriters place) told.Quiet c)
            ∙ same),
        omega arith,
      )

-- without a writer, nothing was written since the collection of the digests in force began
pub clean_digests_at : (i : Inode) (p : List Event) → writers p ≡ 0 → (o : Option Digests)
    → DigestsIs i p o → DigestsClean p o
clean_digests_at i p none None h = tt
clean_digests_at i p none (Some x) h = at (modified_since x.begin p) refl where
  at : (b : Bool) → modified_since x.begin p ≡ b → modified_since x.begin p ≡ false
  at true e = let some : 0 < writers p = h.1 e in absurd (omega arith)
  at false e = e

-- without a writer, nothing was written since the open collection began
pub clean_collecting_at : (i : Inode) (p : List Event) → writers p ≡ 0 → (o : Option Collection)
    → CollectionIs i p o → CollectionClean p o
clean_collecting_at i p none None h = tt
clean_collecting_at i p none (Some c) h = at (modified_since c.begin p) refl where
  at : (b : Bool) → modified_since c.begin p ≡ b → modified_since c.begin p ≡ false
  at true e = let some : cond c.closing 1 0 < writers p = h.1 e in absurd (omega arith)
  at false e = e

-- an event that writes nothing leaves the digests in force unwritten
clean_more : (p q : List Event) → ((place : ℕ) → modified_since place q ≡ modified_since place p)
    → (o : Option Digests) → DigestsClean p o → DigestsClean q o
clean_more p q since None h = tt
clean_more p q since (Some x) h = since x.begin ∙ h

-- an event that writes nothing leaves the open collection unwritten
collection_more : (p q : List Event)
    → ((place : ℕ) → modified_since place q ≡ modified_since place p) → (o : Option Collection)
    → CollectionClean p o → CollectionClean q o
collection_more p q since None h = tt
collection_more p q since (Some x) h = since x.begin ∙ h

-- after a measuring check without writers nothing was written and the mark is set
quiet_base : (i : Inode) (p : List Event) (who : Who) (g : ℕ) (func : Func) (action : Action)
    (rules : ℕ) → action.measure ≡ true → is_writing g p ≡ false → writers p ≡ 0
    → Fresh i p → Guarded i (content p) (event who (deed.Check g func action rules) told.Quiet ∷ p)
quiet_base i p who g func action rules m w none fr = record {
  same = refl;
  marked = or_right (must_measure p) (action.measure && not (is_writing g p))
      (ap (λ (b : Bool). b && not (is_writing g p)) m ∙ ap not w);
  unchecked =
      λ x a wr. let some : 0 < writers p = tally_held is_writer x (files p) wr in
      absurd (omega arith);
  clean_digests = clean_more p (event who (deed.Check g func action rules) told.Quiet ∷ p)
      (λ place. refl) (in_force i p) (clean_digests_at i p none (in_force i p) fr.digests_is);
  clean_collecting = collection_more p (event who (deed.Check g func action rules) told.Quiet ∷ p)
      (λ place. refl) (collecting i p)
      (clean_collecting_at i p none (collecting i p) fr.collection_is);
}

-- after each measuring check without a violation nothing was written and the mark is set
base : (i : Inode) (p : List Event) (who : Who) (d : Deed) (t : Told) (f : ℕ)
    → is_measuring f d ≡ true → Follows i p who d t → Fresh i p → violation_places d t ≡ []
    → holds is_reader (held f (event who d t ∷ p)) ≡ true → Guarded i (content (event who d t ∷ p))
    (event who d t ∷ p)
base i p who (deed.Check g func action rules) t f e h fr v reads =
    let parts : ((g == f) ≡ true) × (action.measure ≡ true) = and_parts _ _ e in
    let w : is_writing g p ≡ false = ap (λ (x : ℕ). is_writing x p) (eqb-true g f parts.0)
    ∙ reader_no_writer (held f p) reads in
    let said : Some (check_told false action.measure (readers p) (writers p) (must_measure p)
    (place_of (placed_in t))) ≡ Some t =
    sym (ap
    (λ (b : Bool). Some (check_told b action.measure (readers p) (writers p) (must_measure p)
    (place_of (placed_in t)))) w) ∙ h.2 in
    let q : (t ≡ told.Quiet) × (writers p ≡ 0) = quiet_check (readers p) (writers p)
    (place_of (placed_in t)) (must_measure p) g func action rules t parts.1 said v in
    subst (λ (x : Told). Guarded i (content p) (event who (deed.Check g func action rules) x ∷ p))
    (sym q.0) (quiet_base i p who g func action rules parts.1 w q.1 fr)
base i p who d t f e h fr v reads = cc

-- ---- the law

-- if each event of a journal follows, so does each event of an earlier part
pub follows_at : (i : Inode) (later : List Event) (b : List Event) → EachFollows i (later ++ b)
    → EachFollows i b
follows_at i [] b h = h
follows_at i (e ∷ later) b h = follows_at i later b h.1

-- a settled file is owed nothing, so its grant has been given
settled : (P : ℕ → Type 0) (i : Inode) (f : ℕ) (p : List Event) (places : List ℕ)
    → stage i f p ≡ Settled → Progress P i f p places → (q : ℕ) × (Contains places q × P q)
settled P i f p places e (inl o) = let z : is_owing (stage i f p) ≡ false = ap is_owing e in cc
settled P i f p places e (inr g) = g

-- each measuring check is answered
answered : (i : Inode) (list : List Entry) (f : ℕ) (later : List Event) (check : Event)
    (before : List Event) → EachFollows i (later ++ check ∷ before)
    → stage i f (later ++ check ∷ before) ≡ Settled
    → holds is_reader (held f (later ++ check ∷ before)) ≡ true
    → is_measuring f check.deed ≡ true
    → IsListed i list (later ++ check ∷ before) → IsMeasuredPath Ima i.path → All IsNamed list
    → IsAnswered i list f (content (later ++ check ∷ before)) later check
answered i list f later check before h s reads m listed path kept =
    at (places_violated (later ++ check ∷ [])) refl where
      here : EachFollows i (check ∷ before)
      here = follows_at i later (check ∷ before) h

      asked : (is_owing (stage i f (check ∷ before)) ≡ true)
          × ((last_check f (check ∷ before)).action.measure ≡ true)
          × (is_gone (stage i f before) ≡ false)
      asked = check_asks i f before check m here.0

      low : f < length (check ∷ before)
      low = let lt : f < length before = (lives i before here.1 f asked.2).0 in omega arith

      at : (vs : List ℕ) → places_violated (later ++ check ∷ []) ≡ vs
          → IsAnswered i list f (content (later ++ check ∷ before)) later check
      at [] e =
          let walked : Guarded i (content (check ∷ before)) (later ++ check ∷ before)
          × Progress (ShowsContent i list (content (check ∷ before))) i f (later ++ check ∷ before)
          (places_granted f later) =
          walk_guarded i list f check before (content (check ∷ before)) later h low e
          (ap is_gone s) reads listed path kept
          (λ v r. base i before check.who check.deed check.told f m here.0
          (freshness_lem i before here.1) v r) (inl (asked.0, asked.1)) in
          let got : (q : ℕ)
          × (Contains (places_granted f later) q
          × ShowsContent i list (content (check ∷ before)) q) =
          settled (ShowsContent i list (content (check ∷ before))) i f (later ++ check ∷ before)
          (places_granted f later) s walked.1 in (
            got.0,
            (
              got.1.0,
              inl
                  (subst (λ (x : List ℕ). ShowsContent i list x got.0)
                  (sym (walked.0).same) got.1.1),
            ),
          )
      at (v ∷ vs) e =
          let walked : Progress (λ q. Unit {0}) i f (later ++ check ∷ before)
          (places_granted f later) =
          walk_any i f (check ∷ before) later h low (inl (asked.0, asked.1)) in
          let got : (q : ℕ) × (Contains (places_granted f later) q × Unit {0}) =
          settled (λ q. Unit {0}) i f (later ++ check ∷ before) (places_granted f later) s walked in
          let has : Contains (places_violated (later ++ check ∷ [])) v =
          subst (λ (xs : List ℕ). Contains xs v) (sym e) (0, omega arith, refl) in (
            got.0,
            (got.1.0, inr (v, (has, violations_shown i list later check before v listed has))),
          )

-- the law, for every way to split the journal at a check
pub covered : (i : Inode) (list : List Entry) (p : List Event) (file : ℕ) → EachFollows i p
    → stage i file p ≡ Settled → holds is_reader (held file p) ≡ true
    → IsListed i list p → IsMeasuredPath Ima i.path → All IsNamed list → IsCovered i list file p
covered i list p file h s reads listed path kept = λ later check before e m.
    subst (λ (x : List Event). IsAnswered i list file (content x) later check) (sym e)
    (answered i list file later check before (subst (λ (x : List Event). EachFollows i x) e h)
    (subst (λ (x : List Event). stage i file x ≡ Settled) e s)
    (subst (λ (x : List Event). holds is_reader (held file x) ≡ true) e reads) m
    (subst (λ (x : List Event). IsListed i list x) e listed) path kept)
