-- If a collection is open, its file is at the matching stage, and no other file collects.
use Rattle.std.proofs.Common.{◌≡◌, ℕ, ◌<◌, Bool, true, false, cond, List, [], ◌∷◌, length, Option, Some, None, refl, sym, ◌∙◌, ap, subst, arith}
use Rattle.std.specs.Prelude.{◌==◌}
use Rattle.std.proofs.lemmas.Bool.{eqb-true, eq-eqb, ne_eqb, cond-true, cond-false}
use Rattle.inode_meta.specs.declared.step.Who.{Who}
use Rattle.hash_algos.specs.declared.algo.Algo.{Algo}
use Rattle.inode_events.specs.Checks.{asks}
use Rattle.inode_events.specs.Files.{find_file, files, held, holds, is_writer, is_writing, less_file}
use Rattle.inode_events.specs.Inode.{Inode}
use Rattle.inode_events.specs.Integrity.{Collection, chosen_algo, collected_more, collecting, collection_of}
use Rattle.inode_events.specs.Legal.{EachFollows, Follows}
use Rattle.inode_events.specs.Stage.{Stage, stage, may_check, touches, is_collecting, is_gone}
use Rattle.inode_events.specs.Stage.{Gone, Counted, Asked, Collecting, Collected, Settled, CloseCollecting, CloseCollected}
use Rattle.inode_events.specs.Says.{unless_collecting}
use Rattle.inode_events.specs.declared.deed.Deed.{Deed}
use Rattle.inode_events.specs.declared.deed.Deed.TheVariants as deed
use Rattle.inode_events.specs.declared.deed.How.{How}
use Rattle.inode_events.specs.declared.told.Event.{Event}
use Rattle.inode_events.specs.declared.told.Told.{Told}
use Rattle.inode_events.specs.declared.told.Told.TheVariants as told
use Rattle.journal_laws.specs.Standing.{collecting_stage}
use Rattle.journal_laws.proofs.Lives.{Lives, lives}
use Rattle.journal_laws.proofs.Small.{cond_same, event}
use Rattle.journal_laws.proofs.Tallies.{find-less}

-- the open collection is of this file
abbrev pub Collects : ℕ → Option Collection → Type 0
Collects f None = ⊥
Collects f (Some c) = c.file ≡ f

-- if a file is at a collecting stage, the open collection is of that file
abbrev pub Busy : Inode → List Event → Option Collection → Type 0
Busy i p o = (f : ℕ) → is_collecting (stage i f p) ≡ true → Collects f o

-- the file of the open collection is at its stage, and is open for writing if it is being closed
abbrev pub StageIs : Inode → List Event → Option Collection → Type 0
StageIs i p None = Unit {0}
StageIs i p (Some c) = (stage i c.file p ≡ collecting_stage c.closing c.complete)
    × (c.closing ≡ true → is_writing c.file p ≡ true)

-- the open collection and its file's stage match, both ways
abbrev pub Stages : Inode → List Event → Type 0
Stages i p = Busy i p (collecting i p) × StageIs i p (collecting i p)

-- the stages of a collection's file are collecting
pub stage_busy : (a b : Bool) → is_collecting (collecting_stage a b) ≡ true
stage_busy false false = refl
stage_busy false true = refl
stage_busy true false = refl
stage_busy true true = refl

-- a file that collects isn't gone
busy_alive : (l : Stage) → is_collecting l ≡ true → is_gone l ≡ false
busy_alive Gone b = cc
busy_alive Counted b = refl
busy_alive Asked b = refl
busy_alive Collecting b = refl
busy_alive Collected b = refl
busy_alive Settled b = refl
busy_alive CloseCollecting b = refl
busy_alive CloseCollected b = refl

-- a file that may be checked doesn't collect
check_idle : (l : Stage) → may_check l ≡ true → is_collecting l ≡ false
check_idle Gone m = refl
check_idle Counted m = refl
check_idle Asked m = refl
check_idle Collecting m = cc
check_idle Collected m = cc
check_idle Settled m = refl
check_idle CloseCollecting m = cc
check_idle CloseCollected m = cc

-- a file that was just checked doesn't collect
asked_idle : (b : Bool) → is_collecting (cond b Asked Settled) ≡ false
asked_idle true = refl
asked_idle false = refl

-- ---- events that leave the collection

-- the event makes no file collect, and leaves the files that do
record Calm (i : Inode) (p q : List Event) : Type 0 where
  none_new : (f : ℕ) → is_collecting (stage i f q) ≡ true → is_collecting (stage i f p) ≡ true
  same : (f : ℕ) → is_collecting (stage i f p) ≡ true → stage i f q ≡ stage i f p
  writing : (f : ℕ) → is_collecting (stage i f p) ≡ true → is_writing f q ≡ is_writing f p

-- a calm event keeps the match of collection and stage
kept : (i : Inode) (p q : List Event) → Calm i p q → (o : Option Collection) → Busy i p o
    → StageIs i p o → Busy i q o × StageIs i q o
kept i p q calm None b s = ((λ f h. b f (calm.none_new f h)), tt)
kept i p q calm (Some c) b s =
    let busy : is_collecting (stage i c.file p) ≡ true = ap is_collecting s.0
    ∙ stage_busy c.closing c.complete in (
      (λ f h. b f (calm.none_new f h)),
      (calm.same c.file busy ∙ s.0, (λ k. calm.writing c.file busy ∙ s.1 k)),
    )

-- an event that makes no file collect: a file that collects after it collected before
quiet : (b : Bool) (after old : Stage) → (b ≡ true → is_collecting old ≡ false)
    → is_collecting after ≡ false → is_collecting (cond b after old) ≡ true
    → is_collecting old ≡ true
quiet true after old m n a = cc
quiet false after old m n a = a

-- a file that collects keeps its stage
calm_at : (b : Bool) (after old : Stage) → (b ≡ true → is_collecting old ≡ false)
    → is_collecting old ≡ true → cond b after old ≡ old
calm_at true after old m a = let n : is_collecting old ≡ false = m refl in cc
calm_at false after old m a = refl

-- a file that doesn't collect doesn't under an equal name
idle : (i : Inode) (p : List Event) (g f : ℕ) → is_collecting (stage i g p) ≡ false
    → (g == f) ≡ true → is_collecting (stage i f p) ≡ false
idle i p g f n h = subst (λ (x : ℕ). is_collecting (stage i x p) ≡ false) (eqb-true g f h) n

-- an event on a file that doesn't collect, before or after, is calm
calm_file : (i : Inode) (p q : List Event) (g : ℕ) (after : Stage)
    → is_collecting (stage i g p) ≡ false → is_collecting after ≡ false
    → ((f : ℕ) → stage i f q ≡ cond (g == f) after (stage i f p))
    → ((f : ℕ) → is_collecting (stage i f p) ≡ true → is_writing f q ≡ is_writing f p) → Calm i p q
calm_file i p q g after n m l w = record {
  none_new = λ f h. quiet (g == f) after (stage i f p) (idle i p g f n) m
      (sym (ap is_collecting (l f)) ∙ h);
  same = λ f h. l f ∙ calm_at (g == f) after (stage i f p) (idle i p g f n) h;
  writing = w;
}

-- an event that changes no stage is calm
calm_all : (i : Inode) (p q : List Event) → ((f : ℕ) → stage i f q ≡ stage i f p)
    → ((f : ℕ) → is_writing f q ≡ is_writing f p) → Calm i p q
calm_all i p q l w = record {
  none_new = λ f h. sym (ap is_collecting (l f))
      ∙ h;
  same = λ f h. l f;
  writing = λ f h. w f;
}

-- a count leaves whether a collecting file is open for writing
new_writing : (i : Inode) (p : List Event) (how : How) → Lives i p → (f : ℕ)
    → is_collecting (stage i f p) ≡ true
    → holds is_writer (find_file f ((length p, how) ∷ files p)) ≡ is_writing f p
new_writing i p how v f b =
    let below : f < length p = (v f (busy_alive (stage i f p) b)).0 in
    ap (holds is_writer) (cond-false (length p == f) (Some how) (held f p) (apart f below)) where
      apart : (f : ℕ) → f < length p → (length p == f) ≡ false
      apart f h = ne_eqb (length p) f (λ e. omega arith)

-- dropping another file leaves whether a collecting file is open for writing
less_writing : (i : Inode) (p : List Event) (g : ℕ) → is_collecting (stage i g p) ≡ false → (f : ℕ)
    → is_collecting (stage i f p) ≡ true
    → holds is_writer (find_file f (less_file g (files p))) ≡ is_writing f p
less_writing i p g n f b = less_at (g == f) refl where
  less_at : (c : Bool) → (g == f) ≡ c → holds is_writer (find_file f (less_file g (files p)))
      ≡ is_writing f p
  less_at true e = let m : is_collecting (stage i f p) ≡ false = idle i p g f n e in cc
  less_at false e = ap (holds is_writer) (find-less g f (files p) e)

-- ---- events of the collection

-- beginning a collection keeps the match
begun : (i : Inode) (p q : List Event) (g : ℕ) (k : Bool) (algo : Algo) (place : ℕ) → Busy i p None
    → ((f : ℕ) → stage i f q ≡ cond (g == f) (collecting_stage k false) (stage i f p))
    → (k ≡ true → is_writing g q ≡ true)
    → Busy i q (Some (collection_of g k algo place))
    × StageIs i q (Some (collection_of g k algo place))
begun i p q g k algo place b l w = (
  (λ f h. at f (g == f) refl (sym (ap is_collecting (l f)) ∙ h)),
  (l g ∙ cond-true (g == g) _ _ (eq-eqb g g refl), w),
) where
  at : (f : ℕ) (c : Bool) → (g == f) ≡ c
      → is_collecting (cond c (collecting_stage k false) (stage i f p)) ≡ true → g ≡ f
  at f true e h = eqb-true g f e
  at f false e h = absurd (b f h)

-- the stage of a collecting file says what the collection is for
pub stage_parts : (a b k : Bool) → collecting_stage a b ≡ collecting_stage k false → (a ≡ k)
    × (b ≡ false)
stage_parts false false false e = (refl, refl)
stage_parts false false true e = cc
stage_parts false true false e = cc
stage_parts false true true e = cc
stage_parts true false false e = cc
stage_parts true false true e = (refl, refl)
stage_parts true true false e = cc
stage_parts true true true e = cc

-- taking a piece keeps the match
taken : (i : Inode) (p q : List Event) (g : ℕ) (k complete : Bool) (bytes : List ℕ)
    → stage i g p ≡ collecting_stage k false
    → ((f : ℕ) → stage i f q ≡ cond (g == f) (collecting_stage k complete) (stage i f p))
    → ((f : ℕ) → is_writing f q ≡ is_writing f p)
    → (o : Option Collection) → Busy i p o → StageIs i p o
    → Busy i q (collected_more bytes complete o) × StageIs i q (collected_more bytes complete o)
taken i p q g k complete bytes was l w None b s =
    absurd (b g (ap is_collecting was ∙ stage_busy k false))
taken i p q g k complete bytes was l w (Some c) b s =
    let mine : c.file ≡ g = b g (ap is_collecting was ∙ stage_busy k false) in
    let stage : collecting_stage c.closing c.complete ≡ collecting_stage k false = sym s.0
    ∙ ap (λ (x : ℕ). stage i x p) mine ∙ was in
    let kind : c.closing ≡ k = (stage_parts c.closing c.complete k stage).0 in (
      (λ f h. at mine f (g == f) refl (sym (ap is_collecting (l f)) ∙ h)),
      (
        l c.file ∙ cond-true (g == c.file) _ _ (eq-eqb g c.file (sym mine))
            ∙ ap (λ (x : Bool). collecting_stage x complete) (sym kind),
        (λ h. w c.file ∙ s.1 h),
      ),
    ) where
      at : c.file ≡ g → (f : ℕ) (x : Bool) → (g == f) ≡ x
          → is_collecting (cond x (collecting_stage k complete) (stage i f p)) ≡ true → c.file ≡ f
      at mine f true e h = mine ∙ eqb-true g f e
      at mine f false e h = b f h

-- ending a collection keeps the match
ended : (i : Inode) (p q : List Event) (g : ℕ) (after : Stage) → is_collecting (stage i g p) ≡ true
    → is_collecting after ≡ false
    → ((f : ℕ) → stage i f q ≡ cond (g == f) after (stage i f p)) → (o : Option Collection)
    → Busy i p o → Busy i q None × StageIs i q None
ended i p q g after was n l None b = absurd (b g was)
ended i p q g after was n l (Some c) b =
    ((λ f h. at (b g was) f (g == f) refl (sym (ap is_collecting (l f)) ∙ h)), tt) where
      at : c.file ≡ g → (f : ℕ) (x : Bool) → (g == f) ≡ x
          → is_collecting (cond x after (stage i f p)) ≡ true → ⊥
      at mine f true e h = cc
      at mine f false e h = let other : c.file ≡ f = b f h in cc (eq-eqb g f (sym mine ∙ other))

-- a piece that isn't the last leaves the stage
more_at : (i : Inode) (p : List Event) (g : ℕ) (l : Stage) → stage i g p ≡ l → (f : ℕ)
    → cond (g == f) (stage i f p) (stage i f p) ≡ cond (g == f) l (stage i f p)
more_at i p g l e f = at (g == f) refl where
  at : (b : Bool) → (g == f) ≡ b → cond b (stage i f p) (stage i f p) ≡ cond b l (stage i f p)
  at true q = subst (λ (x : ℕ). stage i x p ≡ l) (eqb-true g f q) e
  at false q = refl

-- ---- all events

-- an event that needs the mutex is made only while no collection is open
pub free_at : (o : Option Collection) (t u : Told) → unless_collecting o t ≡ Some u → o ≡ None
free_at None t u e = refl
free_at (Some c) t u e = cc

-- each event keeps the match
step : (i : Inode) (p : List Event) (who : Who) (d : Deed) (t : Told) → Follows i p who d t
    → Lives i p → Stages i p → Stages i (event who d t ∷ p)
step i p who (deed.Count how) told.Held h v s =
    kept i p (event who (deed.Count how) told.Held ∷ p)
    (record {
      none_new = λ f a. quiet (length p == f) Counted (stage i f p) (fresh_idle f) refl a;
      same = λ f a. calm_at (length p == f) Counted (stage i f p) (fresh_idle f) a;
      writing = new_writing i p how v;
    })
    (collecting i p) s.0 s.1 where
      fresh_idle : (f : ℕ) → (length p == f) ≡ true → is_collecting (stage i f p) ≡ false
      fresh_idle f e = idle_at (is_collecting (stage i f p)) refl where
        idle_at : (b : Bool) → is_collecting (stage i f p) ≡ b → b ≡ false
        idle_at true a =
            let below : f < length p = (v f (busy_alive (stage i f p) a)).0 in
            let same : length p ≡ f = eqb-true (length p) f e in absurd (omega arith)
        idle_at false a = refl
step i p who (deed.Check g func action rules) t h v s =
    kept i p (event who (deed.Check g func action rules) t ∷ p)
    (calm_file i p _ g (cond (asks i action) Asked Settled) (check_idle (stage i g p) h.1)
    (asked_idle (asks i action)) (λ f. refl) (λ f b. refl))
    (collecting i p) s.0 s.1
step i p who (deed.Take g) told.Begun h v s =
    let free : collecting i p ≡ None = free_at (collecting i p) _ _ h.2 in
    begun i p (event who (deed.Take g) told.Begun ∷ p) g false (chosen_algo i p) (length p)
    (subst (λ (o : Option Collection). Busy i p o) free s.0) (λ f. refl) (λ k. cc)
step i p who (deed.Take g) (told.Grant grant) h v s =
    kept i p (event who (deed.Take g) (told.Grant grant) ∷ p)
    (calm_file i p _ g Settled (ap is_collecting h.1) refl (λ f. refl) (λ f b. refl))
    (collecting i p) s.0 s.1
step i p who (deed.Chunk g) told.More h v s =
    taken i p (event who (deed.Chunk g) told.More ∷ p) g false false _ h.1
    (more_at i p g Collecting h.1) (λ f. refl) (collecting i p) s.0 s.1
step i p who (deed.Chunk g) told.Last h v s =
    taken i p (event who (deed.Chunk g) told.Last ∷ p) g false true _ h.1 (λ f. refl) (λ f. refl)
    (collecting i p) s.0 s.1
step i p who (deed.Finish g) (told.Grant grant) h v s =
    ended i p (event who (deed.Finish g) (told.Grant grant) ∷ p) g Settled
    (ap is_collecting h.1) refl (λ f. refl) (collecting i p) s.0
step i p who (deed.Close g) told.Dropped h v s =
    kept i p (event who (deed.Close g) told.Dropped ∷ p)
    (calm_file i p _ g Gone (ap is_collecting h.1.0) refl (λ f. refl)
    (less_writing i p g (ap is_collecting h.1.0)))
    (collecting i p) s.0 s.1
step i p who (deed.CloseTake g) told.Begun h v s =
    let free : collecting i p ≡ None = free_at (collecting i p) _ _ h.2 in
    begun i p (event who (deed.CloseTake g) told.Begun ∷ p) g true i.settings.hash (length p)
    (subst (λ (o : Option Collection). Busy i p o) free s.0) (λ f. refl) (λ k. h.1.1)
step i p who (deed.CloseTake g) told.Dropped h v s =
    kept i p (event who (deed.CloseTake g) told.Dropped ∷ p)
    (calm_file i p _ g Gone (ap is_collecting h.1.0) refl (λ f. refl)
    (less_writing i p g (ap is_collecting h.1.0)))
    (collecting i p) s.0 s.1
step i p who (deed.CloseChunk g) told.More h v s =
    taken i p (event who (deed.CloseChunk g) told.More ∷ p) g true false _ h.1
    (more_at i p g CloseCollecting h.1) (λ f. refl) (collecting i p) s.0 s.1
step i p who (deed.CloseChunk g) told.Last h v s =
    taken i p (event who (deed.CloseChunk g) told.Last ∷ p) g true true _ h.1 (λ f. refl)
    (λ f. refl) (collecting i p) s.0 s.1
step i p who (deed.CloseFinish g) told.Dropped h v s =
    ended i p (event who (deed.CloseFinish g) told.Dropped ∷ p) g Gone (ap is_collecting h.1) refl
    (λ f. refl) (collecting i p) s.0
step i p who (deed.CloseFinish g) told.LabelledDropped h v s =
    ended i p (event who (deed.CloseFinish g) told.LabelledDropped ∷ p) g Gone
    (ap is_collecting h.1) refl (λ f. refl) (collecting i p) s.0
step i p who d t h v s = kept i p (event who d t ∷ p)
    (calm_all i p _ (λ f. cond_same (touches f (length p) d) (stage i f p)) (λ f. refl))
    (collecting i p) s.0 s.1

-- the match holds for every journal
pub stages : (i : Inode) (p : List Event) → EachFollows i p → Stages i p
stages i [] h = ((λ f a. cc), tt)
stages i (e ∷ before) h =
    step i before e.who e.deed e.told h.0 (lives i before h.1) (stages i before h.1)

-- ---- the open collection and its file

-- the open collection's file is at the matching stage
pub collection_stands : (i : Inode) (p : List Event) (c : Collection) → EachFollows i p
    → collecting i p ≡ Some c → StageIs i p (Some c)
collection_stands i p c h e = subst (λ (o : Option Collection). StageIs i p o) e (stages i p h).1

-- a file at a collecting stage is the open collection's
pub stage_collects : (i : Inode) (p : List Event) (f : ℕ) → EachFollows i p
    → is_collecting (stage i f p) ≡ true
    → (c : Collection) × ((collecting i p ≡ Some c) × (c.file ≡ f))
stage_collects i p f h b = at (collecting i p) refl ((stages i p h).0 f b) where
  at : (o : Option Collection) → collecting i p ≡ o → Collects f o → (c : Collection)
      × ((collecting i p ≡ Some c) × (c.file ≡ f))
  at None e m = absurd m
  at (Some c) e m = (c, (e, m))
