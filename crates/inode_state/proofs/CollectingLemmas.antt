-- The open collection after one more event.
use Rattle.std.proofs.Common.{◌≡◌, ℕ, suc, ◌+◌, ◌≤◌, Bool, true, false, List, [], ◌∷◌, length, Option, Some, None, refl, sym, ◌∙◌, ap, subst, arith}
use Rattle.std.specs.Prelude.{◌==◌, is_none}
use Rattle.std.proofs.lemmas.Bool.{cond-false, eqb-true}
use Rattle.std.proofs.lemmas.Option.{same_Some}
use Rattle.hash_algos.specs.declared.algo.Algo.{Algo}
use Rattle.inode_meta.specs.declared.step.Who.{Who}
use Rattle.inode_events.specs.Checks.{Check, last_check}
use Rattle.inode_events.specs.Inode.{Inode}
use Rattle.inode_events.specs.Integrity.{Collection, collected_more, collecting}
use Rattle.inode_events.specs.Legal.{EachFollows, Follows}
use Rattle.inode_events.specs.Stage.{is_collecting, may_check, stage}
use Rattle.inode_events.specs.State.{content}
use Rattle.inode_events.specs.declared.deed.Deed.{Deed}
use Rattle.inode_events.specs.declared.deed.Deed.TheVariants as deed
use Rattle.inode_events.specs.declared.told.Event.{Event}
use Rattle.inode_events.specs.declared.told.Told.{Told}
use Rattle.inode_events.specs.declared.told.Told.TheVariants as told
use Rattle.journal_laws.proofs.Small.{event}
use Rattle.journal_laws.proofs.Stages.{StageIs, Stages, stage_busy, stages}
use Rattle.inode_events.specs.policy.declared.access.Action.{Action}
use Rattle.inode_events.specs.policy.declared.rule.Func.{Func}
use Rattle.inode_events.specs.Stage.{Stage, Gone, Counted, Asked as AskedStage, Collecting as CollectingStage, Collected, Settled, CloseCollecting, CloseCollected}
use Rattle.inode_state.specs.Collecting.{Asks, Chooses, HasAsked, IfAsked, Short, collecting_next, more_seen, pieces_taken, short_of, short_seen, shortened, shorts_seen}
use Rattle.inode_state.specs.declared.collecting.Asked.{Asked}
use Rattle.inode_state.specs.declared.collecting.Collecting.{Collecting}

-- one more piece keeps the collection in step with the journal
more_same : (bytes : List ℕ) (b : Bool) (o : Option Collecting) (c : Option Collection)
    → shorts_seen o ≡ shortened c
    → shorts_seen (more_seen b o) ≡ shortened (collected_more bytes b c)
more_same bytes b None None e = refl
more_same bytes b None (Some c) e = cc
more_same bytes b (Some o) None e = cc
more_same bytes b (Some o) (Some c) e = ap (λ (s : Short). Some (record s {
  pieces = s.pieces + 1;
  complete = b;
})) (same_Some (short_seen o) (short_of c) e)

-- the collection after one more event is the one that the journal defines
pub collecting_on : (i : Inode) (p : List Event) (who : Who) (d : Deed) (t : Told) (algo : Algo)
    (asked : Option Asked) (old : Option Collecting)
    → Chooses i d p algo → Asks d p asked → shorts_seen old ≡ shortened (collecting i p)
    → shorts_seen (collecting_next d t (length p) algo asked old) ≡ shortened (collecting i (event
    who d t ∷ p))
collecting_on i p who (deed.Take file) told.Begun algo asked old a b h =
    ap (λ (x : Bool). Some (record {
      file = file;
      closing = x;
      algo = algo;
      begin = length p;
      pieces = 0;
      complete = false;
    })) (ap is_none b.1.0)
    ∙ ap (λ (x : Algo). Some (record {
      file = file;
      closing = false;
      algo = x;
      begin = length p;
      pieces = 0;
      complete = false;
    })) a
collecting_on i p who (deed.CloseTake file) told.Begun algo asked old a b h =
    ap (λ (x : Algo). Some (record {
      file = file;
      closing = true;
      algo = x;
      begin = length p;
      pieces = 0;
      complete = false;
    })) a
collecting_on i p who (deed.Chunk file) told.More algo asked old a b h = more_same (content p)
    false old (collecting i p) h
collecting_on i p who (deed.Chunk file) told.Last algo asked old a b h = more_same (content p) true
    old (collecting i p) h
collecting_on i p who (deed.CloseChunk file) told.More algo asked old a b h = more_same (content p)
    false old (collecting i p) h
collecting_on i p who (deed.CloseChunk file) told.Last algo asked old a b h = more_same (content p)
    true old (collecting i p) h
collecting_on i p who (deed.Finish file) (told.Grant grant) algo asked old a b h = refl
collecting_on i p who (deed.CloseFinish file) told.Dropped algo asked old a b h = refl
collecting_on i p who (deed.CloseFinish file) told.LabelledDropped algo asked old a b h = refl
collecting_on i p who d t algo asked old a b h = h

-- ---- what the check asked

-- a file at a stage that allows a check isn't being collected
check_idle : (l : Stage) → may_check l ≡ true → is_collecting l ≡ false
check_idle Gone m = refl
check_idle Counted m = refl
check_idle AskedStage m = refl
check_idle CollectingStage m = cc
check_idle Collected m = cc
check_idle Settled m = refl
check_idle CloseCollecting m = cc
check_idle CloseCollected m = cc

-- one more piece leaves what was asked
more_asked : (p : List Event) (b : Bool) (o : Option Collecting) → HasAsked p o
    → HasAsked p (more_seen b o)
more_asked p b None h = h
more_asked p b (Some c) h = h

-- events that leave the file's last check leave what was asked
calm_asked : (p q : List Event) (o : Option Collecting) → ((f : ℕ)
    → last_check f q ≡ last_check f p) → HasAsked p o → HasAsked q o
calm_asked p q None same h = tt
calm_asked p q (Some c) same h = subst (λ (x : Check). IfAsked x c.asked) (sym (same c.file)) h

-- a check is never of the file whose collection is open
apart : (i : Inode) (p : List Event) (g : ℕ) (o : Option Collecting) (k : Option Collection)
    → shorts_seen o ≡ shortened k → StageIs i p k
    → may_check (stage i g p) ≡ true → (c : Collecting) → o ≡ Some c → (b : Bool)
    → (g == c.file) ≡ b → b ≡ false
apart i p g None k e s m c q b n = cc
apart i p g (Some o) None e s m c q b n = cc
apart i p g (Some o) (Some k) e s m c q false n = refl
apart i p g (Some o) (Some k) e s m c q true n =
    let short : short_seen o ≡ short_of k = same_Some (short_seen o) (short_of k) e in
    let one : k.file ≡ g = sym (ap (λ (x : Short). x.file) short)
    ∙ ap (λ (x : Collecting). x.file) (same_Some o c q) ∙ sym (eqb-true g c.file n) in
    let busy : is_collecting (stage i g p) ≡ true = ap (λ (x : ℕ). is_collecting (stage i x p))
    (sym one) ∙ ap is_collecting s.0 ∙ stage_busy k.closing k.complete in
    let idle : is_collecting (stage i g p) ≡ false = check_idle (stage i g p) m in
    cc

checked_asked : (i : Inode) (p : List Event) (who : Who) (g : ℕ) (func : Func) (action : Action)
    (rules : ℕ) (t : Told) (o : Option Collecting)
    → shorts_seen o ≡ shortened (collecting i p) → Stages i p → may_check (stage i g p) ≡ true
    → HasAsked p o
    → HasAsked (event who (deed.Check g func action rules) t ∷ p) o
checked_asked i p who g func action rules t None e s m h = tt
checked_asked i p who g func action rules t (Some c) e s m h =
    let n : (g == c.file) ≡ false = apart i p g (Some c) (collecting i p) e s.1 m c refl (g ==
    c.file) refl in
    subst (λ (x : Check). IfAsked x c.asked) (sym (cond-false (g == c.file) (record {
      func = func;
      action = action;
    }) (last_check c.file p) n)) h

pub asked_on : (i : Inode) (p : List Event) (who : Who) (d : Deed) (t : Told) (algo : Algo) (asked
    : Option Asked) (old : Option Collecting)
    → Follows i p who d t → EachFollows i p → Asks d p asked
    → shorts_seen old ≡ shortened (collecting i p)
    → HasAsked p old → HasAsked (event who d t ∷ p) (collecting_next d t (length p) algo asked old)
asked_on i p who (deed.Take file) told.Begun algo asked old f each a e h = subst (λ (x : Option
    Asked). IfAsked (last_check file p) x) (sym a.1.0) a.1.1
asked_on i p who (deed.CloseTake file) told.Begun algo asked old f each a e h = tt
asked_on i p who (deed.Chunk file) told.More algo asked old f each a e h = calm_asked p (event who
    (deed.Chunk file) told.More ∷ p) (more_seen false old) (λ f. refl) (more_asked p false old h)
asked_on i p who (deed.Chunk file) told.Last algo asked old f each a e h = calm_asked p (event who
    (deed.Chunk file) told.Last ∷ p) (more_seen true old) (λ f. refl) (more_asked p true old h)
asked_on i p who (deed.CloseChunk file) told.More algo asked old f each a e h = calm_asked p (event
    who (deed.CloseChunk file) told.More ∷ p) (more_seen false old) (λ f. refl) (more_asked p false
    old h)
asked_on i p who (deed.CloseChunk file) told.Last algo asked old f each a e h = calm_asked p (event
    who (deed.CloseChunk file) told.Last ∷ p) (more_seen true old) (λ f. refl) (more_asked p true
    old h)
asked_on i p who (deed.Finish file) (told.Grant grant) algo asked old f each a e h = tt
asked_on i p who (deed.CloseFinish file) told.Dropped algo asked old f each a e h = tt
asked_on i p who (deed.CloseFinish file) told.LabelledDropped algo asked old f each a e h = tt
asked_on i p who (deed.Check g func action rules) t algo asked old f each a e h = checked_asked i p
    who g func action rules t old e (stages i p each) f.1 h
asked_on i p who d t algo asked old f each a e h = calm_asked p (event who d t ∷ p) old (λ f. refl)
    h

-- ---- the number of pieces

abbrev pieces_in : Option Collection → ℕ
pieces_in None = 0
pieces_in (Some c) = c.pieces

more_pieces : (bytes : List ℕ) (b : Bool) (c : Option Collection) (n : ℕ) → pieces_in c ≤ n
    → pieces_in (collected_more bytes b c) ≤ suc n
more_pieces bytes b None n h = omega arith
more_pieces bytes b (Some c) n h = omega arith

pieces_on : (i : Inode) (p : List Event) (who : Who) (d : Deed) (t : Told)
    → pieces_in (collecting i p) ≤ length p
    → pieces_in (collecting i (event who d t ∷ p)) ≤ suc (length p)
pieces_on i p who (deed.Take file) told.Begun h = omega arith
pieces_on i p who (deed.CloseTake file) told.Begun h = omega arith
pieces_on i p who (deed.Chunk file) told.More h = more_pieces (content p) false (collecting i p)
    (length p) h
pieces_on i p who (deed.Chunk file) told.Last h = more_pieces (content p) true (collecting i p)
    (length p) h
pieces_on i p who (deed.CloseChunk file) told.More h = more_pieces (content p) false (collecting i
    p) (length p) h
pieces_on i p who (deed.CloseChunk file) told.Last h = more_pieces (content p) true (collecting i
    p) (length p) h
pieces_on i p who (deed.Finish file) (told.Grant grant) h = omega arith
pieces_on i p who (deed.CloseFinish file) told.Dropped h = omega arith
pieces_on i p who (deed.CloseFinish file) told.LabelledDropped h = omega arith
pieces_on i p who d t h = up (pieces_in (collecting i p)) (length p) h where
  up : (a b : ℕ) → a ≤ b → a ≤ suc b
  up a b h = omega arith

pieces_within : (i : Inode) (p : List Event) → pieces_in (collecting i p) ≤ length p
pieces_within i [] = omega arith
pieces_within i (e ∷ before) = pieces_on i before e.who e.deed e.told (pieces_within i before)

pieces_same : (o : Option Collecting) (c : Option Collection) → shorts_seen o ≡ shortened c
    → pieces_taken o ≡ pieces_in c
pieces_same None None e = refl
pieces_same None (Some c) e = cc
pieces_same (Some o) None e = cc
pieces_same (Some o) (Some c) e = ap (λ (x : Short). x.pieces) (same_Some (short_seen o) (short_of
    c) e)

-- at most as many pieces were taken as there are events
pub few_pieces : (i : Inode) (p : List Event) (o : Option Collecting)
    → shorts_seen o ≡ shortened (collecting i p) → pieces_taken o ≤ length p
few_pieces i p o h = subst (λ (n : ℕ). n ≤ length p) (sym (pieces_same o (collecting i p) h))
    (pieces_within i p)
