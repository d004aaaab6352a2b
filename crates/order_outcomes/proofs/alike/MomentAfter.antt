-- Moments that are alike after the same step in both: on the same inode, on the semaphores or the
-- rules, or on nothing.
use Rattle.std.proofs.Common.{◌≡◌, ℕ, zero, suc, ◌+◌, ◌<◌, ◌==◌, nat_lt, ◌⊎◌, Bool, true, false, ◌&&◌, List, [], ◌∷◌, ◌++◌, length, get_or, Option, Some, None, is_some, option_map, slice_get, slice_set, if◌then◌else◌, refl, ap, sym, subst, ◌∙◌, inl, inr, ⊎_elim, arith}
use Rattle.std.specs.List.{list_any}
use Rattle.std.proofs.lemmas.Bool.{cases_eq, eq-eqb, eqb-true, ne_eqb, or_right}
use Rattle.std.proofs.lemmas.List.{get_or-set_other, get_or-set_same, map-set}
use Rattle.std.proofs.lemmas.Option.{none-some, same_Some}
use Rattle.report_text.specs.model.History.{Position, event}
use Rattle.report_text.specs.model.Scene.{Scene, ScriptFile, inode_of}
use Rattle.report_text.specs.model.Turns.{Moment, journal_at, state_on}
use Rattle.report_text.specs.model.events.Asked.{asked, list_after, outcome, placed_for}
use Rattle.report_text.specs.model.events.Files.{counted}
use Rattle.report_text.specs.model.events.Inode.{Inode}
use Rattle.report_text.specs.model.events.NewestFirst.{newest_first, past_more}
use Rattle.report_text.specs.model.events.Semaphores.{is_post, is_wait, left, posts, semaphore_says, waits}
use Rattle.report_text.specs.model.events.declared.deed.Deed.{Deed}
use Rattle.report_text.specs.model.events.declared.deed.Deed.TheVariants as deed
use Rattle.report_text.specs.model.events.declared.told.Event.{Event}
use Rattle.report_text.specs.model.events.declared.told.Told.{Told}
use Rattle.report_text.specs.model.events.declared.told.Told.TheVariants as told
use Rattle.report_text.specs.model.events.meta.declared.step.Who.{Who}
use Rattle.report_text.specs.model.events.templates.declared.entry.Entry.{Entry}
use Rattle.report_text.specs.model.events.templates.declared.entry.Placed.{Placed}
use Rattle.report_text.specs.model.rules.declared.cell.RuleEntry.{RuleEntry}
use Rattle.order_outcomes.specs.alike.Alike.{AreListsAlike, IsAlikeBy, IsInodeAlike}
use Rattle.order_outcomes.specs.alike.Names.{Naming, has_file, is_used, position_named}
use Rattle.order_outcomes.proofs.alike.InodeLaws.{InodeLaws, IsUsed, deed_named, file_in, named_after}
use Rattle.order_outcomes.proofs.alike.InodeLists.{lists_after}
use Rattle.order_outcomes.proofs.alike.InodePlaces.{after_longer}
use Rattle.order_outcomes.proofs.alike.InodeRetold.{told_with}
use Rattle.order_outcomes.proofs.alike.MomentNames.{KeepsApart}
use Rattle.order_outcomes.proofs.alike.MomentPositions.{Covers, positions_agree, used_after}

-- ---- the names after an event

-- after an event on this inode, a file that it counts is named by its places
abbrev pub naming_after : Naming → ℕ → ℕ → ℕ → Naming
naming_after r i place place2 k file = if k == i && file == place then place2 else r k file

-- at the inode
pub naming_at : (r : Naming) (i place place2 k : ℕ) → k ≡ i
    → naming_after r i place place2 k ≡ named_after (r k) place place2
naming_at r i place place2 k e =
    let is = eq-eqb k i e in
    λ j file. if is j && file == place then place2 else r k file

-- at another inode
pub naming_other : (r : Naming) (i place place2 k : ℕ) → (k ≡ i → ⊥)
    → naming_after r i place place2 k ≡ r k
naming_other r i place place2 k ne =
    let is = ne_eqb k i ne in
    λ j file. if is j && file == place then place2 else r k file

-- the counted file
pub naming_new : (r : Naming) (i place place2 : ℕ) → naming_after r i place place2 i place ≡ place2
naming_new r i place place2 =
    let here = eq-eqb i i refl in
    let same = eq-eqb place place refl in
    λ j. if here j && same j then place2 else r i place

-- a file that was counted before keeps its name
pub naming_old : (r : Naming) (i place place2 k file : ℕ) → (k ≡ i → file < place)
    → naming_after r i place place2 k file ≡ r k file
naming_old r i place place2 k file below = by (k == i) refl
  where
    by : (b : Bool) → (k == i) ≡ b → naming_after r i place place2 k file ≡ r k file
    by false e = λ j. if e j && file == place then place2 else r k file
    by true e =
        let less = below (eqb-true k i e) in
        let other = ne_eqb file place (λ same. omega arith) in
        λ j. if e j && other j then place2 else r k file

-- ---- the semaphores

-- as many more posts than waits
abbrev pub SameCount : ℕ → List Event → List Event → Type 0
SameCount sem a b = posts sem b + waits sem a ≡ posts sem a + waits sem b

-- the count is the same
pub left_same : (sem : ℕ) (a b : List Event) → SameCount sem a b → left sem b ≡ left sem a
left_same sem a b same = omega arith

-- and so it is after the same deed
pub count_more : (sem : ℕ) (a b : List Event) (e : Event)
    → SameCount sem (newest_first a) (newest_first b)
    → SameCount sem (newest_first (a ++ e ∷ [])) (newest_first (b ++ e ∷ []))
count_more sem a b e same =
    subst (λ (pa : List Event). SameCount sem pa (newest_first (b ++ e ∷ []))) (sym (past_more a e))
    (subst (λ (pb : List Event). SameCount sem (e ∷ newest_first a) pb) (sym (past_more b e))
    (by (is_post sem e.deed) (is_wait sem e.deed)))
  where
    by : (x y : Bool)
        → (if x then 1 + posts sem (newest_first b) else posts sem (newest_first b))
        + (if y then 1 + waits sem (newest_first a) else waits sem (newest_first a))
        ≡ (if x then 1 + posts sem (newest_first a) else posts sem (newest_first a))
        + (if y then 1 + waits sem (newest_first b) else waits sem (newest_first b))
    by true true = omega (arith, same)
    by true false = omega (arith, same)
    by false true = omega (arith, same)
    by false false = same

-- a wait is blocked in both moments or in none
pub says_same : (a b : List Event) → ((sem : ℕ) → SameCount sem a b) → (d : Deed)
    → semaphore_says b d ≡ semaphore_says a d
says_same a b same (deed.Wait sem) =
    let count = left_same sem a b (same sem) in
    λ j. if nat_lt 0 (count j) then Some told.Done else None
says_same a b same (deed.Post sem) = refl
says_same a b same _ = refl

-- ---- the moments

module _ (laws : InodeLaws) (scene : Scene) (r : Naming) (a b : Moment)
    (alike : IsAlikeBy scene r a b) where
  abbrev used : ℕ → ℕ → Bool
  used = is_used a.positions

  -- different files of the first moment have different names in the second
  pub keeps_apart : KeepsApart r used
  keeps_apart = record {
    none = alike.none;
    zero = λ i. refl;
    apart = λ i f g is is2. by i f g is is2 (slice_get scene.script_files i) refl;
  }
    where
      by : (i f g : ℕ) → used i f ≡ true → used i g ≡ true → (o : Option ScriptFile)
          → slice_get scene.script_files i ≡ o → (r i f == r i g) ≡ (f == g)
      by i f g is is2 None e =
          let same = alike.elsewhere i e in
          λ j. same f j == same g j
      by i f g is is2 (Some s) e = (alike.inodes i s e).apart f g is is2

  -- the places of the next events
  abbrev place_in : ℕ → ℕ
  place_in i = length (journal_at a.state i)

  abbrev place_in2 : ℕ → ℕ
  place_in2 i = length (journal_at b.state i)

  -- ---- a step that is no event of an inode

  -- the moment with other signals and rules, and the task after its step
  abbrev with_rest : Moment → ℕ → List Event → List RuleEntry → Position → Moment
  with_rest m n signals added t = record {
    state = record m.state { signals = signals; added = added };
    positions = slice_set m.positions n t;
  }

  -- the moments are alike after a step that has the same effect in both
  pub rest_alike : (n : ℕ) (ga gb : List Event) (xa xb : List RuleEntry) (ta tb : Position)
      → Covers used ta → tb ≡ position_named r ta → xb ≡ xa
      → ((sem : ℕ) → SameCount sem (newest_first ga) (newest_first gb))
      → IsAlikeBy scene r (with_rest a n ga xa ta) (with_rest b n gb xb tb)
  rest_alike n ga gb xa xb ta tb covers named added counts = record {
    none = alike.none;
    elsewhere = alike.elsewhere;
    positions = (λ j. slice_set (alike.positions j) n (named j))
        ∙ sym (map-set (position_named r) a.positions n ta);
    inodes = λ i s e. laws.fewer (inode_of scene s) a.state.list b.state.list (used i)
        (is_used (slice_set a.positions n ta) i) (r i) (journal_at a.state i) (journal_at b.state i)
        (alike.inodes i s e) (fewer i);
    lists = alike.lists;
    added = added;
    semaphores = counts;
  }
    where
      fewer : (i file : ℕ) → is_used (slice_set a.positions n ta) i file ≡ true
          → used i file ≡ true
      fewer i file is = ⊎_elim (λ old. old) (covers i file) (used_after a.positions n ta i file is)

  -- ---- an event of an inode

  -- longer lists keep an inode alike
  listed_after : (inode : Inode) (o : Option Entry) (t t2 : Told) (u : ℕ → Bool) (q : ℕ → ℕ)
      (j j2 : List Event) → IsInodeAlike inode a.state.list b.state.list u q j j2
      → IsInodeAlike inode (list_after a.state.list o (Some t))
      (list_after b.state.list o (Some t2)) u q j j2
  listed_after inode o t t2 u q j j2 is =
      let more = after_longer a.state.list o t in
      let more2 = after_longer b.state.list o t2 in
      let longer = laws.listed inode a.state.list b.state.list more.0 more2.0 u q j j2 is in
      subst (λ (l : List Entry). IsInodeAlike inode l (list_after b.state.list o (Some t2)) u q j
      j2) more.1
      (subst (λ (l : List Entry). IsInodeAlike inode (a.state.list ++ more.0) l u q j j2) more2.1
      longer)

  module _ (i : ℕ) (s : ScriptFile) (at : slice_get scene.script_files i ≡ Some s) where
    abbrev this : IsInodeAlike (inode_of scene s) a.state.list b.state.list (used i) (r i)
        (journal_at a.state i) (journal_at b.state i)
    this = alike.inodes i s at

    -- the names after an event
    abbrev after : Naming
    after = naming_after r i (place_in i) (place_in2 i)

    -- files of the first moment keep their names
    pub keeps_names : (k file : ℕ) → used k file ≡ true → r k file ≡ after k file
    keeps_names k file is =
        sym (naming_old r i (place_in i) (place_in2 i) k file
        (λ e. this.below file (sym (λ j. used (e j) file) ∙ is)))

    -- the reply of the second list to the entry that a deed asks for
    abbrev pub reply2 : Deed → Placed
    reply2 d =
        placed_for b.state.list (asked (inode_of scene s) d (newest_first (journal_at a.state i)))

    -- the outcome is the same, but for that reply
    pub outcome_alike : (d : Deed) → IsUsed (used i) (file_in d)
        → outcome (inode_of scene s) b.state.list (deed_named (r i) d)
        (newest_first (journal_at b.state i)) ≡ option_map (told_with (reply2 d))
        (outcome (inode_of scene s) a.state.list d (newest_first (journal_at a.state i)))
    outcome_alike d is =
        laws.outcome_same (inode_of scene s) a.state.list b.state.list (used i) (r i)
        (journal_at a.state i) (journal_at b.state i) d this is

    -- the moment after an event on the inode
    abbrev with_event : Moment → ℕ → Who → Deed → Told → Position → Moment
    with_event m n who d t after = record {
      state = state_on m.state i (inode_of scene s) who d (Some t);
      positions = slice_set m.positions n after;
    }

    -- the event is appended to the journal
    journal_grown : (m : Moment) (n : ℕ) (who : Who) (d : Deed) (t : Told) (u : Position)
        → 0 < length (journal_at m.state i)
        → journal_at (with_event m n who d t u).state i
        ≡ journal_at m.state i ++ event who d t ∷ []
    journal_grown m n who d t u some =
        get_or-set_same m.state.journals i (journal_at m.state i ++ event who d t ∷ []) []
        (within m.state.journals i some)
      where
        within : (js : List (List Event)) (k : ℕ) → 0 < length (get_or js k []) → k < length js
        within [] k lt = absurd (omega (arith, lt))
        within (j ∷ js) zero lt = omega arith
        within (j ∷ js) (suc k) lt = let less = within js k lt in omega (arith, less)

    -- An event in both moments. The task takes its outcome, and has no other file than before,
    -- unless the event has counted one
    module _ (n : ℕ) (who : Who) (d : Deed) (t : Told) (ta tb : Position)
        (is : IsUsed (used i) (file_in d))
        (out : outcome (inode_of scene s) a.state.list d (newest_first (journal_at a.state i))
        ≡ Some t) (named : tb ≡ position_named after ta)
        (files : (k file : ℕ) → has_file k file ta ≡ true
        → (used k file ≡ true) ⊎ ((k ≡ i) × ((file ≡ place_in i) × (is_some (counted d t) ≡ true))))
      where
        abbrev used2 : ℕ → ℕ → Bool
        used2 = is_used (slice_set a.positions n ta)

        -- the entry that it asks for, and the lists after it
        abbrev asks : Option Entry
        asks = asked (inode_of scene s) d (newest_first (journal_at a.state i))

        -- the outcome in the second moment
        abbrev t2 : Told
        t2 = told_with (reply2 d) t

        abbrev list_a : List Entry
        list_a = list_after a.state.list asks (Some t)

        abbrev list_b : List Entry
        list_b = list_after b.state.list asks (Some t2)

        -- the two moments after it
        abbrev after_a : Moment
        after_a = with_event a n who d t ta

        abbrev after_b : Moment
        after_b = with_event b n who (deed_named (r i) d) t2 tb

        -- the same entry is asked for
        same_asked : asked (inode_of scene s) (deed_named (r i) d)
            (newest_first (journal_at b.state i))
            ≡ asked (inode_of scene s) d (newest_first (journal_at a.state i))
        same_asked =
            laws.asked_same (inode_of scene s) a.state.list b.state.list (used i) (r i)
            (journal_at a.state i) (journal_at b.state i) d this is

        -- an inode that isn't in the scene is another one
        not_here : (k : ℕ) → slice_get scene.script_files k ≡ None → k ≡ i → ⊥
        not_here k none e = none-some s (sym none ∙ ap (slice_get scene.script_files) e ∙ at)

        -- what is alike of an inode after the event, for these names and journals
        abbrev Inode2 : ScriptFile → ℕ → (ℕ → ℕ) → List Event → List Event → Type 0
        Inode2 script_file k q x y =
            IsInodeAlike (inode_of scene script_file) list_a list_b (used2 k) q x y

        -- at this inode
        files_here : (file : ℕ) → used2 i file ≡ true
            → (used i file ≡ true) ⊎ ((file ≡ place_in i) × (is_some (counted d t) ≡ true))
        files_here file has =
            ⊎_elim (λ old. inl old)
            (λ new. ⊎_elim (λ old. inl old) (λ it. inr (it.1.0, it.1.1)) (files i file new))
            (used_after a.positions n ta i file has)

        -- the journals with the event are alike
        here : Inode2 s i (after i) (journal_at after_a.state i) (journal_at after_b.state i)
        here =
            let grown = laws.grown (inode_of scene s) a.state.list b.state.list (used i) (r i)
            (journal_at a.state i) (journal_at b.state i) d t who (used2 i) this alike.lists is
            out files_here in
            let ja = journal_grown a n who d t ta (this.below 0 refl) in
            let jb = journal_grown b n who (deed_named (r i) d) t2 tb
            (subst (λ (f : ℕ). f < place_in2 i) (alike.none i) (this.below2 0 refl)) in
            let names = naming_at r i (place_in i) (place_in2 i) i refl in
            subst (λ (q : ℕ → ℕ). Inode2 s i q (journal_at after_a.state i)
            (journal_at after_b.state i)) (sym names)
            (subst (λ (x : List Event). Inode2 s i (named_after (r i) (place_in i) (place_in2 i)) x
            (journal_at after_b.state i)) (sym ja)
            (subst (λ (y : List Event). Inode2 s i (named_after (r i) (place_in i) (place_in2 i))
            (journal_at a.state i ++ event who d t ∷ []) y) (sym jb) grown))

        -- at another one
        files_there : (k : ℕ) → (k ≡ i → ⊥) → (file : ℕ) → used2 k file ≡ true
            → used k file ≡ true
        files_there k ne file has =
            ⊎_elim (λ old. old)
            (λ new. ⊎_elim (λ old. old) (λ it. absurd (ne it.0)) (files k file new))
            (used_after a.positions n ta k file has)

        -- the journals of other inodes still are
        there : (k : ℕ) (script_file : ScriptFile)
            → slice_get scene.script_files k ≡ Some script_file → (k ≡ i → ⊥)
            → Inode2 script_file k (after k) (journal_at after_a.state k)
            (journal_at after_b.state k)
        there k script_file e ne =
            let old = listed_after (inode_of scene script_file) asks t t2 (used k) (r k)
            (journal_at a.state k) (journal_at b.state k) (alike.inodes k script_file e) in
            let less = laws.fewer (inode_of scene script_file) list_a list_b (used k) (used2 k)
            (r k) (journal_at a.state k) (journal_at b.state k) old (files_there k ne) in
            let ja = get_or-set_other a.state.journals i k
            (journal_at a.state i ++ event who d t ∷ []) [] ne in
            let jb = get_or-set_other b.state.journals i k
            (journal_at b.state i ++ event who (deed_named (r i) d) t2 ∷ []) [] ne in
            let names = naming_other r i (place_in i) (place_in2 i) k ne in
            subst (λ (q : ℕ → ℕ). Inode2 script_file k q (journal_at after_a.state k)
            (journal_at after_b.state k)) (sym names)
            (subst (λ (x : List Event). Inode2 script_file k (r k) x (journal_at after_b.state k))
            (sym ja)
            (subst (λ (y : List Event). Inode2 script_file k (r k) (journal_at a.state k) y)
            (sym jb) less))

        -- so all are
        each : (k : ℕ) (script_file : ScriptFile)
            → slice_get scene.script_files k ≡ Some script_file → (k ≡ i) ⊎ (k ≡ i → ⊥)
            → Inode2 script_file k (after k) (journal_at after_a.state k)
            (journal_at after_b.state k)
        each k script_file e (inr ne) = there k script_file e ne
        each k script_file e (inl same) =
            let one = same_Some s script_file
            (sym at ∙ ap (slice_get scene.script_files) (sym same) ∙ e) in
            subst (λ (x : ScriptFile). Inode2 x k (after k) (journal_at after_a.state k)
            (journal_at after_b.state k)) one
            (subst (λ (x : ℕ). Inode2 s x (after x) (journal_at after_a.state x)
            (journal_at after_b.state x)) (sym same) here)

        -- the moments after the event are alike
        pub event_alike : IsAlikeBy scene after after_a after_b
        event_alike =
            let positions = alike.positions ∙ positions_agree r after used keeps_names a.positions
            (λ k file any. or_right (file == 0) (list_any (has_file k file) a.positions) any) in
            record {
              none = λ k. sym (keeps_names k 0 refl) ∙ alike.none k;
              elsewhere = λ k none file. ap (λ (f : ℕ → ℕ). f file)
                  (naming_other r i (place_in i) (place_in2 i) k (not_here k none))
                  ∙ alike.elsewhere k none file;
              positions = (λ j. slice_set (positions j) n (named j))
                  ∙ sym (map-set (position_named after) a.positions n ta);
              inodes = λ k script_file e.
                  subst (λ (o : Option Entry). IsInodeAlike (inode_of scene script_file) list_a
                  (list_after b.state.list o (Some t2)) (used2 k) (after k)
                  (journal_at after_a.state k) (journal_at after_b.state k)) (sym same_asked)
                  (each k script_file e (cases_eq k i));
              lists = subst (λ (o : Option Entry). AreListsAlike list_a
                  (list_after b.state.list o (Some t2))) (sym same_asked)
                  (lists_after a.state.list b.state.list alike.lists asks t t2);
              added = alike.added;
              semaphores = alike.semaphores;
            }
