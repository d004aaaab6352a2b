-- The conditions on a task's files under which its next step is due. L gives the stage of the files
-- in journal i, and W says how they were opened.
use Rattle.std.proofs.Common.{◌≡◌, ℕ, Bool, true, false, ◌&&◌, cond, List, [], ◌∷◌, ◌++◌, Option, Some, None, refl, sym, ◌∙◌, ap}
use Rattle.std.specs.Prelude.{◌==◌}
use Rattle.std.proofs.lemmas.Bool.{eqb-true, eq-eqb, cond-true}
use Rattle.inode_events.specs.Files.{can_read, is_writer}
use Rattle.inode_events.specs.declared.deed.How.{How}
use Rattle.call_steps.specs.Handles.{without}
use Rattle.call_steps.specs.CallState.{Progress, handle_made, handles_after, handles_left, is_done}
use Rattle.call_steps.specs.Handles.{name_ended, name_made, same_name}
use Rattle.call_steps.specs.Steps.{course_of, how_of}
use Rattle.call_steps.specs.declared.ask.Ask.{Ask}
use Rattle.call_steps.specs.declared.ask.Ask.TheVariants as ask
use Rattle.call_steps.specs.declared.call.Call.{Call}
use Rattle.call_steps.specs.declared.call.Call.TheVariants as call
use Rattle.call_steps.specs.declared.held.Handle.{Handle}
use Rattle.call_steps.specs.declared.held.Name.{Name}
use Rattle.call_steps.specs.declared.reply.Reply.{Reply}
use Rattle.inode_events.specs.Stage.{Asked, CloseCollected, CloseCollecting, Collected, Collecting, Settled, Stage, may_check}
use Rattle.call_steps.specs.declared.due.Next.{Next}
use Rattle.call_steps.specs.declared.due.Next.TheVariants.{On, Over}

abbrev pub Each : (Handle → Type 0) → List Handle → Type 0
Each P [] = Unit {0}
Each P (h ∷ hs) = P h × Each P hs

abbrev pub same_file : ℕ → ℕ → Handle → Bool
same_file gi gf h = (h.inode == gi) && (h.file == gf)

abbrev pub counts : Call → Bool
counts (call.Open fd inode h trunc) = true
counts (call.Exec run inode) = true
counts (call.Module inode) = true
counts (call.Firmware inode) = true
counts _ = false

abbrev pub admits : Call → Bool
admits (call.Mmap map fd exec) = true
admits c = counts c

abbrev pub IsWrite : Call → Type 0
IsWrite (call.Write fd from bytes) = Unit {0}
IsWrite _ = ⊥

abbrev pub IsAttr : Call → Type 0
IsAttr (call.SetAttr inode name value) = Unit {0}
IsAttr (call.SetMeta inode change) = Unit {0}
IsAttr _ = ⊥

-- a handle on inode i names a settled file
abbrev pub Strong : ℕ → (ℕ → Stage) → (ℕ → Option How) → Handle → Type 0
Strong i L W h = h.inode ≡ i → (W h.file ≡ Some h.how) × (L h.file ≡ Settled)

-- a handle on inode i names a settled file, unless its file is this one
abbrev pub But : ℕ → ℕ → ℕ → (ℕ → Stage) → (ℕ → Option How) → Handle → Type 0
But gi gf i L W h =
    h.inode ≡ i → (W h.file ≡ Some h.how) × (same_file gi gf h ≡ false → L h.file ≡ Settled)

abbrev pub NoName : ℕ → ℕ → ℕ → Handle → Type 0
NoName gi gf i h = h.inode ≡ i → same_file gi gf h ≡ false

abbrev pub mk : Ask → Reply → ℕ → ℕ → ℕ → How → Progress
mk k r step gi gf hw =
    record { due = record { ask = k; reply = r }; step = step; inode = gi; file = gf; how = hw }

-- the handles after the call; of its progress only the file matters
abbrev pub left : Call → Reply → ℕ → ℕ → How → List Handle → List Handle
left c r gi gf hw hs = handles_after c (mk ask.Plain r 0 gi gf hw) r hs

abbrev pub Mine : Call → ℕ → ℕ → How → List Handle → ℕ → (ℕ → Stage) → (ℕ → Option How) → Type 0
Mine c gi gf hw hs i L W =
    (gi ≡ i → W gf ≡ Some hw) × Each (But gi gf i L W) hs
    × (counts c ≡ true → (hw ≡ how_of (course_of c)) × Each (NoName gi gf i) hs)

abbrev pub At : ℕ → ℕ → ℕ → (ℕ → Stage) → Stage → Type 0
At gi gf i L l = gi ≡ i → L gf ≡ l

abbrev pub Closes : Call → Reply → ℕ → ℕ → How → List Handle → ℕ → Type 0
Closes c r gi gf hw hs i = Each (NoName gi gf i) (left c r gi gf hw hs)

abbrev pub Ready : Call → Ask → Reply → ℕ → ℕ → How → List Handle → ℕ → (ℕ → Stage)
    → (ℕ → Option How) → Type 0
Ready c ask.Count r gi gf hw hs i L W =
    (counts c ≡ true) × (hw ≡ how_of (course_of c)) × Each (Strong i L W) hs
Ready c (ask.Check func mask) r gi gf hw hs i L W =
    Mine c gi gf hw hs i L W × (admits c ≡ true) × (gi ≡ i → may_check (L gf) ≡ true)
Ready c (ask.Take slot) r gi gf hw hs i L W =
    Mine c gi gf hw hs i L W × (admits c ≡ true) × At gi gf i L Asked
Ready c ask.Chunk r gi gf hw hs i L W =
    Mine c gi gf hw hs i L W × (admits c ≡ true) × At gi gf i L Collecting
Ready c ask.Finish r gi gf hw hs i L W =
    Mine c gi gf hw hs i L W × (admits c ≡ true) × At gi gf i L Collected
Ready c (ask.Read from len) r gi gf hw hs i L W =
    Mine c gi gf hw hs i L W × (can_read hw ≡ true) × At gi gf i L Settled
Ready c ask.Write r gi gf hw hs i L W =
    Mine c gi gf hw hs i L W × ((is_writer hw ≡ true) × IsWrite c) × At gi gf i L Settled
Ready c (ask.Trunc len) r gi gf hw hs i L W =
    Mine c gi gf hw hs i L W × (is_writer hw ≡ true) × At gi gf i L Settled
Ready c ask.SetAttr r gi gf hw hs i L W = IsAttr c × Each (Strong i L W) hs
Ready c ask.SetMeta r gi gf hw hs i L W = IsAttr c × Each (Strong i L W) hs
Ready c ask.Close r gi gf hw hs i L W =
    Mine c gi gf hw hs i L W × ((is_writer hw ≡ false) × Closes c r gi gf hw hs i)
    × At gi gf i L Settled
Ready c ask.CloseTake r gi gf hw hs i L W =
    Mine c gi gf hw hs i L W × ((is_writer hw ≡ true) × Closes c r gi gf hw hs i)
    × At gi gf i L Settled
Ready c ask.CloseChunk r gi gf hw hs i L W =
    Mine c gi gf hw hs i L W × Closes c r gi gf hw hs i × At gi gf i L CloseCollecting
Ready c ask.CloseFinish r gi gf hw hs i L W =
    Mine c gi gf hw hs i L W × Closes c r gi gf hw hs i × At gi gf i L CloseCollected
Ready c ask.Plain r gi gf hw hs i L W = Each (Strong i L W) (left c r gi gf hw hs)

-- the conditions after a step; a further step is on the file `go`
abbrev pub NextTo : Call → ℕ → ℕ → ℕ → How → List Handle → ℕ → (ℕ → Stage) → (ℕ → Option How)
    → Next → Type 0
NextTo c gi gf go hw hs i L W (On p) = Ready c p.ask p.reply gi go hw hs i L W
NextTo c gi gf go hw hs i L W (Over r) = Each (Strong i L W) (left c r gi gf hw hs)

abbrev pub NextFits : Call → ℕ → ℕ → How → List Handle → ℕ → (ℕ → Stage) → (ℕ → Option How) → Next
    → Type 0
NextFits c gi gf hw hs i L W n = NextTo c gi gf gf hw hs i L W n

-- ---- lists of handles

pub each_map : (P Q : Handle → Type 0) → ((h : Handle) → P h → Q h) → (hs : List Handle)
    → Each P hs → Each Q hs
each_map P Q f [] e = tt
each_map P Q f (h ∷ hs) e = (f h e.0, each_map P Q f hs e.1)

pub each_both : (P N Q : Handle → Type 0) → ((h : Handle) → P h → N h → Q h) → (hs : List Handle)
    → Each P hs → Each N hs → Each Q hs
each_both P N Q f [] e n = tt
each_both P N Q f (h ∷ hs) e n = (f h e.0 n.0, each_both P N Q f hs e.1 n.1)

pub each_append : (P : Handle → Type 0) (xs ys : List Handle) → Each P xs → Each P ys
    → Each P (xs ++ ys)
each_append P [] ys a b = b
each_append P (x ∷ xs) ys a b = (a.0, each_append P xs ys a.1 b)

pub each_without : (P : Handle → Type 0) (n : Name) (hs : List Handle) → Each P hs
    → Each P (without n hs)
each_without P n [] e = tt
each_without P n (h ∷ hs) e = at (each_without P n hs e.1) (same_name n h.name) where
  at : Each P (without n hs) → (b : Bool) → Each P (cond b hs (h ∷ without n hs))
  at ih true = e.1
  at ih false = (e.0, ih)

-- a property of the handles and of the call's file holds of the handles after the call
pub each_left : (P : Handle → Type 0) (c : Call) (r : Reply) (gi gf : ℕ) (hw : How)
    (hs : List Handle) → Each P hs
    → ((n : Name) → P (record { name = n; inode = gi; file = gf; how = hw }))
    → Each P (left c r gi gf hw hs)
each_left P c r gi gf hw hs e f = at (is_done r) where
  ends : (o : Option Name) → Each P (handles_left o hs)
  ends None = e
  ends (Some n) = each_without P n hs e

  makes : (o : Option Name) → Each P (handle_made o (mk ask.Plain r 0 gi gf hw))
  makes None = tt
  makes (Some n) = (f n, tt)

  at : (b : Bool) → Each P (cond b (handles_left (name_ended c) hs
      ++ handle_made (name_made c) (mk ask.Plain r 0 gi gf hw)) hs)
  at true = each_append P (handles_left (name_ended c) hs)
      (handle_made (name_made c) (mk ask.Plain r 0 gi gf hw)) (ends (name_ended c))
      (makes (name_made c))
  at false = e

-- ---- a step on the file

abbrev pub with_life : ℕ → ℕ → ℕ → (Stage → Stage) → (ℕ → Stage) → ℕ → Stage
with_life gi gf i x L f = cond (gi == i) (cond (gf == f) (x (L f)) (L f)) (L f)

pub with_here : (gi gf i : ℕ) (x : Stage → Stage) (L : ℕ → Stage) → gi ≡ i
    → with_life gi gf i x L gf ≡ x (L gf)
with_here gi gf i x L e =
    cond-true (gi == i) _ _ (eq-eqb gi i e) ∙ cond-true (gf == gf) _ _ (eq-eqb gf gf refl)

with_apart : (gi gf i : ℕ) (y l : Stage) (h : Handle) → h.inode ≡ i → same_file gi gf h ≡ false
    → cond (gi == i) (cond (gf == h.file) y l) l ≡ l
with_apart gi gf i y l h e s = at (gi == i) refl (gf == h.file) refl where
  at : (a : Bool) → (gi == i) ≡ a → (b : Bool) → (gf == h.file) ≡ b → cond a (cond b y l) l ≡ l
  at false p b q = refl
  at true p false q = refl
  at true p true q =
      let a : (h.inode == gi) ≡ true = eq-eqb h.inode gi (e ∙ sym (eqb-true gi i p)) in
      let b : (h.file == gf) ≡ true = eq-eqb h.file gf (sym (eqb-true gf h.file q)) in
      let z : same_file gi gf h ≡ true = ap (λ (x : Bool). x && (h.file == gf)) a ∙ b in
      absurd (cc)

pub mine_after : (c : Call) (gi gf : ℕ) (hw : How) (hs : List Handle) (i : ℕ) (L : ℕ → Stage)
    (W : ℕ → Option How) (x : Stage → Stage)
    → Mine c gi gf hw hs i L W → Mine c gi gf hw hs i (with_life gi gf i x L) W
mine_after c gi gf hw hs i L W x m = (
  m.0,
  each_map (But gi gf i L W) (But gi gf i (with_life gi gf i x L) W)
      (λ h b e. (
        (b e).0,
        (λ s. with_apart gi gf i (x (L h.file)) (L h.file) h e s
            ∙ (b e).1 s),
      )) hs m.1,
  m.2,
)

and_parts : (a b : Bool) → (a && b) ≡ true → (a ≡ true) × (b ≡ true)
and_parts true b e = (refl, e)
and_parts false b e = cc

strong_if : (gi gf : ℕ) (i : ℕ) (L : ℕ → Stage) (W : ℕ → Option How) → At gi gf i L Settled
    → (h : Handle) → But gi gf i L W h → Strong i L W h
strong_if gi gf i L W s h b e = ((b e).0, at (same_file gi gf h) refl) where
  at : (a : Bool) → same_file gi gf h ≡ a → L h.file ≡ Settled
  at false q = (b e).1 q
  at true q =
      let ps = and_parts (h.inode == gi) (h.file == gf) q in
      ap L (eqb-true h.file gf ps.1) ∙ s (sym (eqb-true h.inode gi ps.0) ∙ e)

-- if the call is over and its file is settled, the conditions hold
pub over_settled : (c : Call) (r : Reply) (gi gf : ℕ) (hw : How) (hs : List Handle) (i : ℕ)
    (L : ℕ → Stage) (W : ℕ → Option How)
    → Mine c gi gf hw hs i L W → At gi gf i L Settled → Each (Strong i L W) (left c r gi gf hw hs)
over_settled c r gi gf hw hs i L W m s =
    each_left (Strong i L W) c r gi gf hw hs (each_map (But gi gf i L W) (Strong i L W)
    (strong_if gi gf i L W s) hs m.1) (λ n e. (m.0 e, s e))

-- if the call is over and no handle names its file, the conditions hold
pub over_gone : (c : Call) (r : Reply) (gi gf : ℕ) (hw : How) (hs : List Handle) (i : ℕ)
    (L : ℕ → Stage) (W : ℕ → Option How)
    → Mine c gi gf hw hs i L W → Closes c r gi gf hw hs i
    → Each (Strong i L W) (left c r gi gf hw hs)
over_gone c r gi gf hw hs i L W m n =
    each_both (But gi gf i L W) (NoName gi gf i) (Strong i L W)
    (λ h b a e. ((b e).0, (b e).1 (a e))) (left c r gi gf hw hs)
    (each_left (But gi gf i L W) c r gi gf hw hs m.1
    (λ k e. (m.0 e, (λ s. absurd (same gi gf s))))) n where
      same : (a b : ℕ) → ((a == a) && (b == b)) ≡ false → ⊥
      same a b s = let z : ((a == a) && (b == b)) ≡ true =
          ap (λ (x : Bool). x && (b == b)) (eq-eqb a a refl) ∙ eq-eqb b b refl in cc
