-- The invariant of a journal after one more event.
use Rattle.std.proofs.Common.{◌≡◌, ℕ, ◌+◌, ◌<◌, List, [], ◌∷◌, ◌++◌, length, map, false, All, Option, Some, None, refl, sym, ◌∙◌, ap, subst, arith}
use Rattle.std.proofs.lemmas.List.{length-reverse, map-append}
use Rattle.std.proofs.lemmas.List.Elements.{All-append, All-cons, All-nil}
use Rattle.grow_list.specs.Shown.{Grown, Passed}
use Rattle.inode_events.specs.Callers.{caller_of}
use Rattle.inode_events.specs.Files.{counted, held, is_exec, is_reader, is_writer}
use Rattle.inode_events.specs.Inode.{Inode}
use Rattle.inode_events.specs.Legal.{EachFollows, Follows, IsBorn, Legal, May}
use Rattle.inode_events.specs.Says.{placed_in, says}
use Rattle.inode_meta.specs.declared.step.Who.{Who}
use Rattle.inode_events.specs.declared.deed.Deed.{Deed}
use Rattle.inode_events.specs.declared.deed.Deed.TheVariants as deed
use Rattle.inode_events.specs.declared.told.Told.{Told}
use Rattle.inode_events.specs.NewestFirst.{newest_first, past_more}
use Rattle.inode_events.specs.Stage.{is_gone, stage}
use Rattle.inode_events.specs.declared.deed.How.{How}
use Rattle.std.specs.Prelude.{slice_get}
use Rattle.journal_laws.proofs.Holding.{held_counted}
use Rattle.journal_laws.proofs.Bridge.{event_there}
use Rattle.inode_events.specs.declared.told.Event.{Event}
use Rattle.inode_state.proofs.CollectingLemmas.{few_pieces}
use Rattle.inode_state.proofs.CountsLemmas.{few}
use Rattle.inode_state.specs.Collecting.{pieces_taken}
use Rattle.inode_state.specs.State.{IsState}
use Rattle.inode_state.specs.declared.state.State.{State}
use Rattle.journal_laws.specs.Own.{IsBy, IsOwned}
use Rattle.inode_state.specs.Fields.{Keeps}
use Rattle.inode_events.specs.declared.image.Image.{Image}
use Rattle.inode_events.specs.declared.told.Told.TheVariants as told
use Rattle.inode_state.specs.Value.{birth_in, birth_of}

pub length_past : (list : List Event) → length (newest_first list) ≡ length list
unfolding newest_first
length_past list = length-reverse list

-- appending an event leaves the birth
pub birth_same : (list : List Event) (e : Event) → IsBorn (newest_first list)
    → birth_in (list ++ e ∷ []) ≡ birth_in list
unfolding newest_first
birth_same [] e b = absurd b
birth_same (x ∷ xs) e b = refl

-- each count is at most the number of events
pub record IsSmall (s : State) (n : ℕ) : Type 0 where
  pub writers : s.counts.writers < n + 1
  pub readers : s.counts.readers < n + 1
  pub execs : s.counts.execs < n + 1
  pub pieces : pieces_taken s.collecting < n + 1

pub small : (i : Inode) (list : List Event) (s : State) → IsState i (newest_first list) s
    → IsSmall s (length list)
small i list s h =
    let len = length_past list in
    let w = few is_writer (newest_first list) in
    let r = few is_reader (newest_first list) in
    let x = few is_exec (newest_first list) in
    let p = few_pieces i (newest_first list) s.collecting h.collecting in
    record {
      writers = omega (arith, h.counts.writers, w, len);
      readers = omega (arith, h.counts.readers, r, len);
      execs = omega (arith, h.counts.execs, x, len);
      pieces = omega (arith, p, len);
    }

-- an event follows if its deed may be done and its outcome is what the journal says
pub follows_by : (i : Inode) (p : List Event) (who : Who) (d : Deed) (t : Told) → IsBorn p
    → May i p d → says i p (placed_in t) d ≡ Some t → Follows i p who d t
follows_by i p who deed.Birth t b m s = absurd m
follows_by i p who d t b m s = (b, m, s)

-- the invariant holds after one more event
pub kept_on : (i : Inode) (g g' : Grown Event) (own : Passed Event) (s s' : State) (e : Event)
    (number : ℕ) → Keeps i g own s
    → Follows i (newest_first g.list) e.who e.deed e.told
    → IsBy (caller_of e) e.deed (newest_first g.list) → number ≡ caller_of e
    → g'.name ≡ g.name → g'.callers ≡ g.callers → number < g'.callers → g'.list ≡ g.list ++ e ∷ []
    → g'.numbers ≡ g.numbers ++ number ∷ [] → IsState i (e ∷ newest_first g.list) s'
    → Keeps i g' own s'
kept_on i g g' own s s' e number k f by n name callers below list numbers state =
    let p : newest_first g'.list ≡ e ∷ newest_first g.list =
    ap newest_first list ∙ past_more g.list e in
    record {
      legal = subst (λ (q : List Event). IsBorn q × EachFollows i q) (sym p) (tt, (f, k.legal.1));
      numbers = numbers ∙ ap (λ (ns : List ℕ). ns ++ number ∷ []) k.numbers
          ∙ ap (λ (m : ℕ). map caller_of g.list ++ m ∷ []) n
          ∙ sym (map-append caller_of g.list (e ∷ [])) ∙ ap (map caller_of) (sym list);
      owned = subst IsOwned (sym p) (by, k.owned);
      own_name = k.own_name ∙ sym name;
      own_number = k.own_number;
      birth = k.birth;
      own_mine = k.own_mine;
      within = subst (λ (l : List Event). All (λ x. caller_of x < g'.callers) l) (sym list)
          (All-append (λ x. caller_of x < g'.callers) g.list (e ∷ [])
          (subst (λ (m : ℕ). All (λ x. caller_of x < m) g.list) (sym callers) k.within)
          (All-cons (λ x. caller_of x < g'.callers) e [] (subst (λ (m : ℕ). m < g'.callers) n
          below) (All-nil (λ x. caller_of x < g'.callers))));
      state = subst (λ (q : List Event). IsState i q s') (sym p) state;
    }

-- how the file that the event counts was opened
abbrev pub how_of_event : Option Event → Option How
how_of_event None = None
how_of_event (Some e) = counted e.deed e.told

pub held_at : (i : Inode) (list : List Event) (file : ℕ) (o : Option Event)
    → Legal i (newest_first list) → o ≡ slice_get list file
    → is_gone (stage i file (newest_first list)) ≡ false
    → how_of_event o ≡ held file (newest_first list)
held_at i list file o legal is alive =
    let h = held_counted i file (newest_first list) legal.1 alive in
    ap how_of_event (is ∙ sym (event_there file list) ∙ h.stands) ∙ h.said ∙ sym h.holds

-- the past of a journal of one event is that event
pub past_one : (e : Event) → newest_first (e ∷ []) ≡ e ∷ []
unfolding newest_first
past_one e = refl

-- the invariant holds for a journal that has only its birth
pub keeps_born : (i : Inode) (g : Grown Event) (own : Passed Event) (s : State) (image : Image)
    → i.birth ≡ image → g.list ≡ birth_of image ∷ []
    → g.numbers ≡ 0 ∷ [] → own.name ≡ g.name → own.number ≡ 0 → own.mine ≡ (0, birth_of image) ∷ []
    → 0 < g.callers → IsState i (birth_of image ∷ []) s → Keeps i g own s
keeps_born i g own s image born list numbers name number mine callers state =
    let p : newest_first g.list ≡ birth_of image ∷ [] =
    ap newest_first list ∙ past_one (birth_of image) in
    record {
      legal = subst (λ (q : List Event). IsBorn q
          × EachFollows i q) (sym p) (tt, ((refl, refl, ap told.Image (sym born)), tt));
      numbers = numbers ∙ sym (ap (map caller_of) list);
      owned = subst IsOwned (sym p) ((λ f n. absurd (cc)), tt);
      own_name = name;
      own_number = number;
      birth = birth_of image;
      own_mine = mine;
      within = subst (λ (l : List Event). All (λ x. caller_of x < g.callers) l) (sym list)
          (All-cons (λ x. caller_of x < g.callers) (birth_of image) [] callers (All-nil (λ x.
          caller_of x < g.callers)));
      state = subst (λ (q : List Event). IsState i q s) (sym p) state;
    }
