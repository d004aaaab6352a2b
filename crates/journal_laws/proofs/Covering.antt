-- A measuring check is answered by a later grant of its file.
use Rattle.std.proofs.Common.{◌≡◌, ℕ, ◌<◌, Bool, true, false, ◌&&◌, not, cond, List, [], ◌∷◌, ◌++◌, length, get_or, Option, Some, None, refl, sym, ◌∙◌, ap, subst, arith, inl, inr}
use Rattle.std.specs.Prelude.{◌≤◌, nat_le, ◌⊎◌, ◌==◌, All, Contains, slice_get}
use Rattle.std.specs.Str.{bytes_eq}
use Rattle.std.proofs.lemmas.Bool.{and_parts, cond-true, eqb-true, not-true, or_left}
use Rattle.std.proofs.lemmas.List.Elements.{All-drop, All-get_or, Contains-append_left, Contains-append_right}
use Rattle.std.proofs.lemmas.List.Quantifiers.{position-Some}
use Rattle.std.proofs.lemmas.Option.{slice_get-get_or}
use Rattle.std.proofs.lemmas.Slice.Eq.{bytes_eq-Decides}
use Rattle.hash_algos.specs.Digest.{HasDigestSize, digest_of}
use Rattle.hash_algos.proofs.HashLemmas.{length-hash}
use Rattle.hash_algos.specs.declared.algo.Algo.{Algo}
use Rattle.hash_algos.specs.declared.algo.Algo.TheVariants.{Sha1}
use Rattle.hash_algos.specs.declared.digest.Digest.{Digest}
use Rattle.ima_templates.proofs.DataLemmas.{IsNamed, template_data-named}
use Rattle.ima_templates.specs.Data.{template_data}
use Rattle.ima_templates.specs.Path.{IsGraphic, IsMeasuredPath, last_component}
use Rattle.ima_templates.specs.Same.{place_of_same, same, same_data, same_template}
use Rattle.ima_templates.specs.Shown.{shown_digest, shown_name}
use Rattle.ima_templates.specs.declared.entry.Entry.{Entry}
use Rattle.ima_templates.specs.declared.entry.Placed.{Placed}
use Rattle.ima_templates.specs.declared.entry.Placed.TheVariants.{Added, Already}
use Rattle.inode_meta.specs.declared.measurement.Template.{Template}
use Rattle.inode_meta.specs.declared.measurement.Template.TheVariants.{Ima, ImaNg, ImaSig, ImaBuf}
use Rattle.inode_meta.specs.declared.step.Who.{Who}
use Rattle.inode_events.specs.Checks.{Check, appraises, asks, check_after, last_check}
use Rattle.inode_events.specs.Coverage.{ShowsContent, grant_places, is_measuring, place_in}
use Rattle.inode_events.specs.Grants.{grant_of}
use Rattle.inode_events.specs.Inode.{Inode}
use Rattle.inode_events.specs.Integrity.{Collection, Digests, collecting, digest_from, in_force}
use Rattle.inode_events.specs.Legal.{Follows}
use Rattle.inode_events.specs.Stage.{Stage, stage, next_stage, may_check, touches, is_gone}
use Rattle.inode_events.specs.Stage.{Gone, Counted, Asked, Collecting, Collected, Settled, CloseCollecting, CloseCollected}
use Rattle.inode_events.specs.Listing.{IsFirstIn, StandsIn, added_at, found_at, measured, template_for}
use Rattle.inode_events.specs.Says.{place_of, placed_in}
use Rattle.inode_events.specs.declared.deed.Deed.{Deed}
use Rattle.inode_events.specs.declared.deed.Deed.TheVariants as deed
use Rattle.inode_events.specs.declared.told.Event.{Event}
use Rattle.inode_events.specs.declared.told.Grant.{Grant}
use Rattle.inode_events.specs.declared.told.Told.{Told}
use Rattle.inode_events.specs.declared.told.Told.TheVariants as told
use Rattle.journal_laws.proofs.Fresh.{finish_grants, take_grants}
use Rattle.journal_laws.proofs.Lives.{check_alive}
use Rattle.journal_laws.proofs.Small.{cond_same, event}

-- ---- what an entry of the list shows

-- templates that compare equal are equal
template_true : (a b : Template) → same_template a b ≡ true → a ≡ b
template_true Ima Ima e = refl
template_true ImaNg ImaNg e = refl
template_true ImaSig ImaSig e = refl
template_true ImaBuf ImaBuf e = refl
template_true _ _ e = cc

-- entries that are the same show the same digest and name
same_shows : (x e : Entry) → same x e ≡ true → IsNamed x → IsNamed e
    → (x.violation ≡ false) × (x.template ≡ e.template)
    × ((x.digest ≡ e.digest) × (x.name ≡ e.name))
unfolding same
same_shows x e s named_x named_e =
    let a : ((not x.violation && not e.violation && x.pcr == e.pcr) ≡ true)
    × (same_data x e ≡ true) = and_parts _ _ s in
    let b : ((not x.violation && not e.violation) ≡ true) × ((x.pcr == e.pcr) ≡ true) =
    and_parts _ _ a.0 in
    let c : (not x.violation ≡ true) × (not e.violation ≡ true) = and_parts _ _ b.0 in
    let d : (same_template x.template e.template ≡ true)
    × (bytes_eq (template_data x) (template_data e) ≡ true) = and_parts _ _ a.1 in
    let t : x.template ≡ e.template = template_true x.template e.template d.0 in (
      not-true x.violation c.0,
      t,
      template_data-named x e named_x named_e t
          ((bytes_eq-Decides (template_data x) (template_data e)).0 d.1),
    )

-- the digest that a template shows, of two digests of the same bytes
shown_of : (t : Template) (algo : Algo) (bytes : List ℕ) → shown_digest t (digest_of algo bytes)
    (digest_of Sha1 bytes) ≡ digest_of
    (shown_digest t (digest_of algo bytes) (digest_of Sha1 bytes)).algo bytes
shown_of Ima algo bytes = refl
shown_of ImaNg algo bytes = refl
shown_of ImaSig algo bytes = refl
shown_of ImaBuf algo bytes = refl

-- the digest that a measurement shows
measured_digest : (i : Inode) (f : ℕ) (x : Digests) (p : List Event) (algo : Algo) (bytes : List ℕ)
    → x.digest ≡ digest_of algo bytes → x.sha1 ≡ digest_of Sha1 bytes
    → (measured i f x p).digest ≡ digest_of (measured i f x p).digest.algo bytes
measured_digest i f x p algo bytes d s =
    let t : Template = template_for i (last_check f p).action in
    let e : shown_digest (template_for i (last_check f p).action) x.digest x.sha1 ≡ shown_digest
    (template_for i (last_check f p).action) (digest_of algo bytes) (digest_of Sha1 bytes) =
    ap (λ (y : Digest). shown_digest (template_for i (last_check f p).action) y x.sha1) d
    ∙ ap (λ (y : Digest). shown_digest (template_for i (last_check f p).action)
    (digest_of algo bytes) y) s in
    e ∙ shown_of (template_for i (last_check f p).action) algo bytes
    ∙ sym (ap (λ (y : Digest). digest_of y.algo bytes) e)

-- a template shows a printable path as printable bytes
pub graphic_shown : (t : Template) (path : List ℕ) → All IsGraphic path
    → All IsGraphic (shown_name t path)
graphic_shown Ima path h = at (nat_le (length path) 255) where
  at : (b : Bool) → All IsGraphic (cond b path (last_component path))
  at true = h
  at false = All-drop IsGraphic _ path h
graphic_shown ImaNg path h = h
graphic_shown ImaSig path h = h
graphic_shown ImaBuf path h = h

-- a template shows at most 1,024 bytes of a path
pub short_shown : (t : Template) (path : List ℕ) → length path ≤ 1024
    → length (last_component path) ≤ 255 → length (shown_name t path) ≤ 1024
short_shown Ima path h l = at (nat_le (length path) 255) where
  at : (b : Bool) → length (cond b path (last_component path)) ≤ 1024
  at true = h
  at false = omega arith
short_shown ImaNg path h l = h
short_shown ImaSig path h l = h
short_shown ImaBuf path h l = h

-- the entry of a measurement has a digest of its algorithm's size and a name that comes from the
-- path
pub measured_named : (i : Inode) (f : ℕ) (x : Digests) (p : List Event) (algo : Algo) (bytes : List ℕ)
    → x.digest ≡ digest_of algo bytes
    → x.sha1 ≡ digest_of Sha1 bytes → IsMeasuredPath Ima i.path → IsNamed (measured i f x p)
measured_named i f x p algo bytes d s path = record {
  digest_size = size (template_for i (last_check f p).action);
  digest_of_ima = λ is. ap (λ (t : Template). (shown_digest t x.digest x.sha1).algo) is
      ∙ ap (λ (y : Digest). y.algo) s;
  name_at_most = short_shown (template_for i (last_check f p).action) i.path path.at_most
      (path.component refl).1;
  name_graphic = graphic_shown (template_for i (last_check f p).action) i.path path.graphic;
} where
  hashed : (y : Digest) (a : Algo) → y ≡ digest_of a bytes → HasDigestSize y
  hashed y a e = subst HasDigestSize (sym e) (length-hash a bytes)

  size : (t : Template) → HasDigestSize (shown_digest t x.digest x.sha1)
  size Ima = hashed x.sha1 Sha1 s
  size ImaNg = hashed x.digest algo d
  size ImaSig = hashed x.digest algo d
  size ImaBuf = hashed x.digest algo d

-- the first entry that is the same as this one is at its place
pub first_shows : (list : List Entry) (e : Entry) (place : ℕ) → place_of_same list e ≡ Some place
    → (slice_get list place ≡ Some (get_or list place e)) × (same (get_or list place e) e ≡ true)
    × (place < length list)
first_shows list e place h =
    let a : (place < length list) × (same (get_or list place e) e ≡ true)
    × ((k : ℕ) → k < place → same (get_or list k e) e ≡ false) =
    position-Some (λ (y : Entry). same y e) list place e h in
    (slice_get-get_or list place e a.0, a.1, a.0)

-- the entry at a measurement's place shows the content, whether it was added or found
pub shows_listed : (i : Inode) (list : List Entry) (f : ℕ) (p : List Event) (x : Digests)
    (algo : Algo) (bytes : List ℕ) (placed : Placed)
    → x.digest ≡ digest_of algo bytes → x.sha1 ≡ digest_of Sha1 bytes
    → StandsIn list (added_at (Some placed) (Some x) i f p)
    → IsFirstIn list (found_at (Some placed) (Some x) i f p)
    → IsMeasuredPath Ima i.path → All IsNamed list → ShowsContent i list bytes (place_of placed)
shows_listed i list f p x algo bytes (Added place) d s st fi path kept =
    (measured i f x p, (st, refl, refl, measured_digest i f x p algo bytes d s))
shows_listed i list f p x algo bytes (Already place) d s st fi path kept =
    let e : Entry = measured i f x p in
    let at : (slice_get list place ≡ Some (get_or list place (measured i f x p)))
    × (same (get_or list place (measured i f x p)) (measured i f x p) ≡ true)
    × (place < length list) =
    first_shows list (measured i f x p) place fi in
    let is : ((get_or list place (measured i f x p)).violation ≡ false)
    × ((get_or list place (measured i f x p)).template ≡ (measured i f x p).template)
    × (((get_or list place (measured i f x p)).digest ≡ (measured i f x p).digest)
    × ((get_or list place (measured i f x p)).name ≡ (measured i f x p).name)) =
    same_shows (get_or list place (measured i f x p)) (measured i f x p) at.1
    (All-get_or IsNamed list place (measured i f x p) at.2 kept)
    (measured_named i f x p algo bytes d s path) in (
      get_or list place (measured i f x p),
      (
        at.0,
        is.0,
        is.2.1 ∙ ap (λ (t : Template). shown_name t i.path) (sym is.1),
        is.2.0 ∙ measured_digest i f x p algo bytes d s
            ∙ ap (λ (y : Digest). digest_of y.algo bytes) (sym is.2.0),
      ),
    )

-- ---- a grant is owed until it is given

-- whether the file is owed a grant
abbrev pub is_owing : Stage → Bool
is_owing Asked = true
is_owing Collecting = true
is_owing Collected = true
is_owing _ = false

-- the file is owed a measuring grant, or has had one at a place for which P holds
abbrev pub Progress : (ℕ → Type 0) → Inode → ℕ → List Event → List ℕ → Type 0
Progress P i f p places =
    ((is_owing (stage i f p) ≡ true) × ((last_check f p).action.measure ≡ true))
    ⊎ ((q : ℕ) × (Contains places q × P q))

-- a file that may be checked is owed nothing
check_not_owing : (l : Stage) → may_check l ≡ true → is_owing l ≡ false
check_not_owing Gone m = cc
check_not_owing Counted m = refl
check_not_owing Asked m = cc
check_not_owing Collecting m = cc
check_not_owing Collected m = cc
check_not_owing Settled m = refl
check_not_owing CloseCollecting m = cc
check_not_owing CloseCollected m = cc

-- an event on a file that is owed nothing leaves what others are owed
owe_other : (i : Inode) (p : List Event) (g f : ℕ) (after l : Stage) → stage i g p ≡ l
    → is_owing l ≡ false → is_owing (stage i f p) ≡ true
    → is_owing (cond (g == f) after (stage i f p)) ≡ true
owe_other i p g f after l e n o = at (g == f) refl where
  at : (b : Bool) → (g == f) ≡ b → is_owing (cond b after (stage i f p)) ≡ true
  at true q =
      let z : stage i f p ≡ l = subst (λ (x : ℕ). stage i x p ≡ l) (eqb-true g f q) e in
      cc (ap is_owing z)
  at false q = o

-- an event after which its file is still owed leaves what is owed
owe_after : (b : Bool) (after old : Stage) → is_owing after ≡ true → is_owing old ≡ true
    → is_owing (cond b after old) ≡ true
owe_after true after old a o = a
owe_after false after old a o = o

-- a count leaves what earlier files are owed
owe_counted : (f : ℕ) (p : List Event) (old : Stage) → f < length p → is_owing old ≡ true
    → is_owing (cond (length p == f) Counted old) ≡ true
owe_counted f p old b o = at (length p == f) refl where
  at : (x : Bool) → (length p == f) ≡ x → is_owing (cond x Counted old) ≡ true
  at true q = let s : length p ≡ f = eqb-true (length p) f q in absurd (omega arith)
  at false q = o

-- no check changes the last check of a file that is owed a grant
owe_check : (i : Inode) (p : List Event) (g f : ℕ) (new : Check) → may_check (stage i g p) ≡ true
    → is_owing (stage i f p) ≡ true
    → cond (g == f) new (last_check f p) ≡ last_check f p
owe_check i p g f new m o = at (g == f) refl where
  at : (b : Bool) → (g == f) ≡ b → cond b new (last_check f p) ≡ last_check f p
  at true q = let z : is_owing (stage i f p) ≡ false =
      subst (λ (x : ℕ). is_owing (stage i x p) ≡ false) (eqb-true g f q)
      (check_not_owing (stage i g p) m) in cc
  at false q = refl

-- the grant of a file that is owed one names a place
given : (P : ℕ → Type 0) (i : Inode) (f g : ℕ) (p : List Event) (grant : Grant) (placed : Placed)
    (places : List ℕ) → (last_check f p).action.measure ≡ true
    → ((g == f) ≡ true → grant.placed ≡ cond (last_check g p).action.measure (Some placed) None)
    → is_owing (stage i f p) ≡ true
    → ((g == f) ≡ true → grant.placed ≡ Some placed → P (place_of placed))
    → ((is_owing (cond (g == f) Settled (stage i f p)) ≡ true)
    × ((last_check f p).action.measure ≡ true))
    ⊎ ((q : ℕ) × (Contains (cond (g == f) (place_in grant.placed) [] ++ places) q × P q))
given P i f g p grant placed places m made o shows = at (g == f) refl where
  at : (b : Bool) → (g == f) ≡ b
      → ((is_owing (cond b Settled (stage i f p)) ≡ true)
      × ((last_check f p).action.measure ≡ true))
      ⊎ ((q : ℕ) × (Contains (cond b (place_in grant.placed) [] ++ places) q × P q))
  at true e =
      let mm : (last_check g p).action.measure ≡ true =
      subst (λ (x : ℕ). (last_check x p).action.measure ≡ true) (sym (eqb-true g f e)) m in
      let names_it : grant.placed ≡ Some placed = made e ∙ cond-true _ (Some placed) None mm in
      inr (
        place_of placed,
        (
          subst (λ (o : Option Placed). Contains (place_in o ++ places) (place_of placed))
              (sym names_it)
              (Contains-append_left (place_of placed ∷ []) places (place_of placed)
              (0, omega arith, refl)),
          shows e names_it,
        ),
      )
  at false e = inl (o, m)

-- each event keeps the file owed or gives it its grant
pub step : (P : ℕ → Type 0) (i : Inode) (f : ℕ) (p : List Event) (who : Who) (d : Deed) (t : Told)
    (places : List ℕ) → Follows i p who d t → f < length p
    → ((grant : Grant) (placed : Placed) → t ≡ told.Grant grant
    → grant_places f d t ≡ place_of placed ∷ [] → grant.placed ≡ Some placed
    → placed_in t ≡ placed → P (place_of placed))
    → Progress P i f p places → Progress P i f (event who d t ∷ p) (grant_places f d t ++ places)
step P i f p who d t places h b shows (inr g) =
    inr (g.0, (Contains-append_right (grant_places f d t) places g.0 g.1.0, g.1.1))
step P i f p who deed.Birth t places h b shows (inl o) = inl o
step P i f p who (deed.Count how) told.Held places h b shows (inl o) =
    inl (owe_counted f p (stage i f p) b o.0, o.1)
step P i f p who (deed.Check g func action rules) t places h b shows (inl o) =
    inl (
      owe_other i p g f (cond (asks i action) Asked Settled) (stage i g p) refl
          (check_not_owing (stage i g p) h.1) o.0,
      ap (λ (c : Check). c.action.measure)
          (owe_check i p g f (record { func = func; action = action }) h.1 o.0) ∙ o.1,
    )
step P i f p who (deed.Take g) told.Begun places h b shows (inl o) =
    inl (owe_after (g == f) Collecting (stage i f p) refl o.0, o.1)
step P i f p who (deed.Take g) (told.Grant grant) places h b shows (inl o) =
    given P i f g p grant (placed_in (told.Grant grant)) places o.1
    (λ e. let made : (x : Digests)
    × ((in_force i p ≡ Some x)
    × (grant_of i g (placed_in (told.Grant grant)) x.digest p ≡ grant)) =
    take_grants i p g (placed_in (told.Grant grant)) grant (collecting i p) (in_force i p) h.2 in
    sym (ap (λ (y : Grant). y.placed) made.1.1)) o.0
    (λ e names_it. shows grant (placed_in (told.Grant grant)) refl
    (cond-true (g == f) (place_in grant.placed) [] e ∙ ap place_in names_it) names_it refl)
step P i f p who (deed.Chunk g) told.Last places h b shows (inl o) =
    inl (owe_after (g == f) Collected (stage i f p) refl o.0, o.1)
step P i f p who (deed.Finish g) (told.Grant grant) places h b shows (inl o) =
    given P i f g p grant (placed_in (told.Grant grant)) places o.1
    (λ e. let made : (c : Collection)
    × ((collecting i p ≡ Some c)
    × (grant_of i g (placed_in (told.Grant grant)) (digest_from c) p ≡ grant)) =
    finish_grants i p g (placed_in (told.Grant grant)) grant (collecting i p) h.2 in
    sym (ap (λ (y : Grant). y.placed) made.1.1)) o.0
    (λ e names_it. shows grant (placed_in (told.Grant grant)) refl
    (cond-true (g == f) (place_in grant.placed) [] e ∙ ap place_in names_it) names_it refl)
step P i f p who (deed.Close g) told.Dropped places h b shows (inl o) =
    inl (owe_other i p g f Gone Settled h.1.0 refl o.0, o.1)
step P i f p who (deed.CloseTake g) told.Begun places h b shows (inl o) =
    inl (owe_other i p g f CloseCollecting Settled h.1.0 refl o.0, o.1)
step P i f p who (deed.CloseTake g) told.Dropped places h b shows (inl o) =
    inl (owe_other i p g f Gone Settled h.1.0 refl o.0, o.1)
step P i f p who (deed.CloseChunk g) told.Last places h b shows (inl o) =
    inl (owe_other i p g f CloseCollected CloseCollecting h.1 refl o.0, o.1)
step P i f p who (deed.CloseFinish g) told.Dropped places h b shows (inl o) =
    inl (owe_other i p g f Gone CloseCollected h.1 refl o.0, o.1)
step P i f p who (deed.CloseFinish g) told.LabelledDropped places h b shows (inl o) =
    inl (owe_other i p g f Gone CloseCollected h.1 refl o.0, o.1)
step P i f p who d t places h b shows (inl o) =
    inl (ap is_owing (cond_same (touches f (length p) d) (stage i f p)) ∙ o.0, o.1)

-- ---- the check

-- a measuring check asks for a take
pub check_asks : (i : Inode) (f : ℕ) (before : List Event) (check : Event)
    → is_measuring f check.deed ≡ true → Follows i before check.who check.deed check.told
    → (is_owing (stage i f (check ∷ before)) ≡ true)
    × ((last_check f (check ∷ before)).action.measure ≡ true)
    × (is_gone (stage i f before) ≡ false)
check_asks i f before check m h = at check.deed m h where
  at : (d : Deed) → is_measuring f d ≡ true → Follows i before check.who d check.told
      → (is_owing (next_stage i f (length before) d check.told (stage i f before)) ≡ true)
      × ((check_after f d (last_check f before)).action.measure ≡ true)
      × (is_gone (stage i f before) ≡ false)
  at (deed.Check g func action rules) e h =
      let parts : ((g == f) ≡ true) × (action.measure ≡ true) = and_parts _ _ e in (
        ap is_owing (cond-true (g == f) _ _ parts.0 ∙ cond-true (asks i action) Asked Settled
            (or_left action.measure (appraises i action) parts.1)),
        ap (λ (c : Check). c.action.measure)
            (cond-true (g == f) (record { func = func; action = action })
            (last_check f before) parts.0) ∙ parts.1,
        subst (λ (x : ℕ). is_gone (stage i x before) ≡ false) (eqb-true g f parts.0)
            (check_alive (stage i g before) h.1),
      )
  at _ e h = cc
