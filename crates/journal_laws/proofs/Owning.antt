-- All events on a file are by its caller, so the caller's own entries say all about it.
use Rattle.std.proofs.Common.{◌≡◌, ℕ, suc, ◌<◌, ◌≤◌, Bool, true, false, cond, List, [], ◌∷◌, length, Some, refl, sym, ◌∙◌, ap, arith}
use Rattle.std.specs.Prelude.{◌==◌, option_map}
use Rattle.std.proofs.lemmas.Bool.{eqb-true, eq-eqb, ne_eqb, cond-false}
use Rattle.std.proofs.lemmas.Option.{same_Some}
use Rattle.inode_events.specs.Callers.{caller_of}
use Rattle.inode_events.specs.Checks.{Check, check_after, last_check}
use Rattle.inode_events.specs.Inode.{Inode}
use Rattle.inode_events.specs.Stage.{stage, next_stage, touches, is_gone, stage_in}
use Rattle.inode_events.specs.declared.deed.Deed.{Deed}
use Rattle.inode_events.specs.declared.deed.Deed.TheVariants as deed
use Rattle.inode_events.specs.declared.told.Event.{Event}
use Rattle.journal_laws.specs.Standing.{event_at}
use Rattle.journal_laws.specs.Own.{IsOwned, check_in, counter, names_file, own_past}
use Rattle.journal_laws.specs.OwnLaws.{CheckIsOwn, FileIsOwn, StageIsOwn}

-- ---- the caller who counted a file

-- an event touches a file by naming it or by counting it
pub touched : (f place : ℕ) (d : Deed) → (place == f) ≡ false → touches f place d ≡ true
    → names_file f d ≡ true
touched f place (deed.Count how) ne t = cc
touched f place deed.Birth ne t = t
touched f place (deed.Check g func action rules) ne t = t
touched f place (deed.Take g) ne t = t
touched f place (deed.Chunk g) ne t = t
touched f place (deed.Finish g) ne t = t
touched f place (deed.Read g from len) ne t = t
touched f place (deed.Write g from bytes) ne t = t
touched f place (deed.Trunc g len) ne t = t
touched f place (deed.SetAttr name bytes admin) ne t = t
touched f place (deed.SetMeta change) ne t = t
touched f place (deed.Close g) ne t = t
touched f place (deed.CloseTake g) ne t = t
touched f place (deed.CloseChunk g) ne t = t
touched f place (deed.CloseFinish g) ne t = t
touched f place (deed.Post sem) ne t = t
touched f place (deed.Wait sem) ne t = t

-- a counted file's place lies within the journal
pub counted_within : (f n : ℕ) (p : List Event) → counter f p ≡ Some n → f < length p
counted_within f n [] h = absurd (cc)
counted_within f n (e ∷ before) h = at (counted_within f n before) (length before == f) refl h where
  at : (counter f before ≡ Some n → f < length before) → (b : Bool) → (length before == f) ≡ b
      → option_map caller_of (cond b (Some e) (event_at f before)) ≡ Some n
      → f < suc (length before)
  at ih true q g = let s : length before ≡ f = eqb-true (length before) f q in omega arith
  at ih false q g = let s : f < length before = ih g in omega arith

-- a file that was counted before isn't named by the newest event's place
pub not_here : (f n : ℕ) (before : List Event) → counter f before ≡ Some n
    → (length before == f) ≡ false
not_here f n before c =
    let b : f < length before = counted_within f n before c in
    ne_eqb (length before) f (λ e. absurd (omega arith))

-- a later event leaves who counted a file
pub counter_more : (f n : ℕ) (e : Event) (before : List Event) → counter f before ≡ Some n
    → counter f (e ∷ before) ≡ Some n
counter_more f n e before c = ap (option_map caller_of)
    (cond-false (length before == f) (Some e) (event_at f before) (not_here f n before c)) ∙ c

-- ---- all events on a file are one caller's

-- all events that touch the file are the caller's
abbrev Alone : ℕ → ℕ → List Event → Type 0
Alone f n [] = Unit {0}
Alone f n (e ∷ before) =
    (touches f (length before) e.deed ≡ true → caller_of e ≡ n) × Alone f n before

-- nothing touches a file that isn't counted yet
unborn : (f n : ℕ) (p : List Event) → IsOwned p → length p ≤ f → Alone f n p
unborn f n [] o le = tt
unborn f n (e ∷ before) o le = ((λ t. absurd (none t)), unborn f n before o.1 (omega arith)) where
  none : touches f (length before) e.deed ≡ true → ⊥
  none t =
      let c =
      o.0 f (touched f (length before) e.deed
      (ne_eqb (length before) f (λ q. absurd (omega arith))) t) in
      let w : f < length before = counted_within f (caller_of e) before c in
      absurd (omega arith)

-- from its count on, only its caller touches a file
alone : (f n : ℕ) (p : List Event) → IsOwned p → counter f p ≡ Some n → Alone f n p
alone f n [] o h = tt
alone f n (e ∷ before) o h = at (alone f n before o.1) (length before == f) refl h where
  at : (counter f before ≡ Some n → Alone f n before) → (b : Bool) → (length before == f) ≡ b
      → option_map caller_of (cond b (Some e) (event_at f before)) ≡ Some n
      → (touches f (length before) e.deed ≡ true → caller_of e ≡ n) × Alone f n before
  at ih true q g =
      let s : length before ≡ f = eqb-true (length before) f q in
      ((λ t. same_Some (caller_of e) n g), unborn f n before o.1 (omega arith))
  at ih false q g = (
    (λ t. same_Some (caller_of e) n (sym (o.0 f (touched f (length before) e.deed q t)) ∙ g)),
    ih
        g,
  )

-- ---- stages

-- own entries give the stage of a file that only the caller touches
stage_alone : (i : Inode) (n f : ℕ) (p : List Event) → Alone f n p
    → stage i f p ≡ stage_in i f (own_past n p)
stage_alone i n f [] a = refl
stage_alone i n f (e ∷ before) a = at (stage_alone i n f before a.1) (n == caller_of e) refl
    (touches f (length before) e.deed) refl where
      at : stage i f before ≡ stage_in i f (own_past n before) → (b : Bool) → (n == caller_of e) ≡ b
          → (c : Bool) → touches f (length before) e.deed ≡ c
          → next_stage i f (length before) e.deed e.told (stage i f before)
          ≡ stage_in i f (cond b ((length before, e) ∷ own_past n before) (own_past n before))
      at ih true q c t = ap (λ l. next_stage i f (length before) e.deed e.told l) ih
      at ih false q true t =
          let s : caller_of e ≡ n = a.0 t in
          let y : (n == caller_of e) ≡ true = eq-eqb n (caller_of e) (sym s) in cc
      at ih false q false t =
          cond-false (touches f (length before) e.deed) _ (stage i f before) t ∙ ih

-- own entries give the stage of each file that the caller counted
pub stage_own : StageIsOwn
stage_own i n f p o h = stage_alone i n f p (alone f n p o h)

-- ---- checks

-- an event that doesn't touch the file isn't a check of it
check_apart : (f place : ℕ) (d : Deed) (old : Check) → touches f place d ≡ false
    → check_after f d old ≡ old
check_apart f place (deed.Check g func action rules) old t =
    cond-false (g == f) (record { func = func; action = action }) old t
check_apart f place d old t = refl

-- own entries give the last check of a file that only the caller touches
check_alone : (n f : ℕ) (p : List Event) → Alone f n p → last_check f p ≡ check_in f (own_past n p)
check_alone n f [] a = refl
check_alone n f (e ∷ before) a = at (check_alone n f before a.1) (n == caller_of e) refl
    (touches f (length before) e.deed) refl where
      at : last_check f before ≡ check_in f (own_past n before) → (b : Bool)
          → (n == caller_of e) ≡ b
          → (c : Bool) → touches f (length before) e.deed ≡ c
          → check_after f e.deed (last_check f before) ≡ check_in f
          (cond b ((length before, e) ∷ own_past n before) (own_past n before))
      at ih true q c t = ap (check_after f e.deed) ih
      at ih false q true t =
          let s : caller_of e ≡ n = a.0 t in
          let y : (n == caller_of e) ≡ true = eq-eqb n (caller_of e) (sym s) in cc
      at ih false q false t = check_apart f (length before) e.deed (last_check f before) t ∙ ih

-- own entries give the last check of each file that the caller counted
pub check_own : CheckIsOwn
check_own n f p o h = check_alone n f p (alone f n p o h)

-- ---- the owner of a file

-- an own entry after which a file exists is its count, or names it and so is by its owner
pub file_own : FileIsOwn
file_own i n f [] o a = absurd (cc)
file_own i n f (e ∷ before) o a = at (λ g. counter_more f n e before (file_own i n f before o.1 g))
    (n == caller_of e) refl a where
      touching : caller_of e ≡ n → touches f (length before) e.deed ≡ true → (b : Bool)
          → (length before == f) ≡ b
          → option_map caller_of (cond b (Some e) (event_at f before)) ≡ Some n
      touching s t true q = ap Some s
      touching s t false q = o.0 f (touched f (length before) e.deed q t) ∙ ap Some s

      mine : (is_gone (stage_in i f (own_past n before)) ≡ false → counter f (e ∷ before) ≡ Some n)
          → caller_of e ≡ n → (c : Bool) → touches f (length before) e.deed ≡ c
          → is_gone
          (next_stage i f (length before) e.deed e.told (stage_in i f (own_past n before)))
          ≡ false → counter f (e ∷ before) ≡ Some n
      mine later s true t g = touching s t (length before == f) refl
      mine later s false t g =
          later (sym
          (ap is_gone
          (cond-false (touches f (length before) e.deed) _ (stage_in i f (own_past n before)) t))
          ∙ g)

      at : (is_gone (stage_in i f (own_past n before)) ≡ false → counter f (e ∷ before) ≡ Some n)
          → (b : Bool) → (n == caller_of e) ≡ b
          → is_gone
          (stage_in i f (cond b ((length before, e) ∷ own_past n before) (own_past n before)))
          ≡ false
          → counter f (e ∷ before) ≡ Some n
      at later true q g =
          mine later (sym (eqb-true n (caller_of e) q)) (touches f (length before) e.deed) refl g
      at later false q g = later g
