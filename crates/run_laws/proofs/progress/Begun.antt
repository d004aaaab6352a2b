-- How a call begins.
use Rattle.std.proofs.Common.{◌≡◌, ℕ, ◌+◌, ◌<◌, ◌≤◌, nat_le, Bool, true, false, ◌&&◌, cond, List, [], ◌∷◌, ◌++◌, Option, Some, None, refl, sym, ◌∙◌, ap, subst, arith}
use Rattle.std.specs.Prelude.{◌==◌}
use Rattle.std.proofs.lemmas.Bool.{eq-eqb, leb-true}
use Rattle.std.proofs.lemmas.List.{append-nil}
use Rattle.std.proofs.lemmas.Option.{same_Some}
use Rattle.inode_events.specs.Files.{can_read, is_writer}
use Rattle.inode_events.specs.declared.deed.How.{How}
use Rattle.call_steps.specs.Handles.{handle_of, held_by, is_free, names_of, same_name, without}
use Rattle.std.specs.Prelude.{option_map}
use Rattle.call_steps.specs.CallState.{Progress, begun, file_of, how_held, inode_of}
use Rattle.call_steps.specs.Steps.{course_of, at_once, check, close, first, how_of, due}
use Rattle.call_steps.specs.declared.held.Hand.{Hand}
use Rattle.call_steps.specs.declared.ask.Ask.{Ask}
use Rattle.call_steps.specs.declared.ask.Ask.TheVariants as ask
use Rattle.call_steps.specs.declared.call.Call.{Call}
use Rattle.call_steps.specs.declared.call.Call.TheVariants as call
use Rattle.call_steps.specs.declared.held.Handle.{Handle}
use Rattle.call_steps.specs.declared.held.Name.{Name}
use Rattle.call_steps.specs.declared.held.Name.TheVariants as name
use Rattle.call_steps.specs.declared.reply.Reply.TheVariants as reply
use Rattle.run_laws.proofs.progress.Ready.{At, But, Closes, Each, Mine, NoName, Ready, Strong, counts, each_append, each_map, each_without, left, same_file}
use Rattle.inode_events.specs.Stage.{Settled, Stage, may_check}
use Rattle.call_steps.specs.declared.due.Due.{Due}

-- ---- the handle that the call uses

pub each_find : (P : Handle → Type 0) (n : Name) (hs : List Handle) (h : Handle) → Each P hs
    → handle_of n hs ≡ Some h → P h
each_find P n [] h e f = absurd (cc)
each_find P n (x ∷ hs) h e f = at (same_name n x.name) f (each_find P n hs h e.1) where
  at : (b : Bool) → cond b (Some x) (handle_of n hs) ≡ Some h → (handle_of n hs ≡ Some h → P h)
      → P h
  at true q ih = subst P (same_Some x h q) e.0
  at false q ih = ih q

-- if the file has no name left, no handle names it
no_names : (gi gf i : ℕ) (hs : List Handle) → names_of gi gf hs ≤ 0 → Each (NoName gi gf i) hs
no_names gi gf i [] l = tt
no_names gi gf i (x ∷ hs) l = at (same_file gi gf x) refl l (no_names gi gf i hs) where
  at : (b : Bool) → same_file gi gf x ≡ b → cond b (1 + names_of gi gf hs) (names_of gi gf hs) ≤ 0
      → (names_of gi gf hs ≤ 0 → Each (NoName gi gf i) hs) → Each (NoName gi gf i) (x ∷ hs)
  at true q l ih = absurd (omega arith)
  at false q l ih = ((λ e. q), ih l)

some_names : (n : Name) (hs : List Handle) (h : Handle) → handle_of n hs ≡ Some h
    → 0 < names_of h.inode h.file hs
some_names n [] h f = absurd (cc)
some_names n (x ∷ hs) h f = at (same_name n x.name) f (some_names n hs h) where
  itself : (a b k m : ℕ) → 0 < cond ((a == a) && (b == b)) (1 + k) m
  itself a b k m =
      subst (λ (c : Bool). 0 < cond c (1 + k) m)
      (sym (ap (λ (y : Bool). y && (b == b)) (eq-eqb a a refl) ∙ eq-eqb b b refl)) (omega arith)

  more : (c : Bool) (k : ℕ) → 0 < k → 0 < cond c (1 + k) k
  more true k l = omega arith
  more false k l = l

  at : (b : Bool) → cond b (Some x) (handle_of n hs) ≡ Some h
      → (handle_of n hs ≡ Some h → 0 < names_of h.inode h.file hs)
      → 0 < names_of h.inode h.file (x ∷ hs)
  at true q ih =
      subst (λ (y : Handle). 0 < names_of y.inode y.file (x ∷ hs)) (same_Some x h q)
      (itself x.inode x.file (names_of x.inode x.file hs) (names_of x.inode x.file hs))
  at false q ih = more (same_file h.inode h.file x) (names_of h.inode h.file hs) (ih q)

only_name : (i : ℕ) (n : Name) (hs : List Handle) (h : Handle) → handle_of n hs ≡ Some h
    → names_of h.inode h.file hs ≤ 1 → Each (NoName h.inode h.file i) (without n hs)
only_name i n [] h f l = absurd (cc)
only_name i n (x ∷ hs) h f l =
    at (same_name n x.name) f l (only_name i n hs h) (some_names n hs h) where
      first_out : (a b k m : ℕ) → k ≡ m → cond ((a == a) && (b == b)) (1 + k) m ≤ 1 → k ≤ 0
      first_out a b k m e l =
          let z : 1 + k ≤ 1 =
          subst (λ (c : Bool). cond c (1 + k) m ≤ 1)
          (ap (λ (y : Bool). y && (b == b)) (eq-eqb a a refl) ∙ eq-eqb b b refl) l in omega arith

      other : (c : Bool) (k : ℕ) → 0 < k → cond c (1 + k) k ≤ 1 → (c ≡ false) × (k ≤ 1)
      other true k p l = absurd (omega arith)
      other false k p l = (refl, l)

      at : (b : Bool) → cond b (Some x) (handle_of n hs) ≡ Some h
          → names_of h.inode h.file (x ∷ hs) ≤ 1
          → (handle_of n hs ≡ Some h → names_of h.inode h.file hs ≤ 1
          → Each (NoName h.inode h.file i) (without n hs))
          → (handle_of n hs ≡ Some h → 0 < names_of h.inode h.file hs)
          → Each (NoName h.inode h.file i) (cond b hs (x ∷ without n hs))
      at true q l ih some =
          let s : x ≡ h = same_Some x h q in
          no_names h.inode h.file i hs
          (subst (λ (y : Handle). names_of y.inode y.file (x ∷ hs) ≤ 1
          → names_of y.inode y.file hs ≤ 0) s
          (first_out x.inode x.file (names_of x.inode x.file hs)
          (names_of x.inode x.file hs) refl) l)
      at false q l ih some =
          let o = other (same_file h.inode h.file x) (names_of h.inode h.file hs) (some q) l
          in ((λ e. o.0), ih q o.1)

-- ---- the first steps

module _ (admin : Bool) (hs : List Handle) (i : ℕ) (L : ℕ → Stage) (W : ℕ → Option How)
    (s : Each (Strong i L W) hs) where
  abbrev Begins : Call → Progress → Type 0
  Begins c g = Ready c g.due.ask g.due.reply g.inode g.file g.how hs i L W

  plain_left : (b : Bool) → Each (Strong i L W) (cond b (hs ++ []) hs)
  plain_left true = subst (Each (Strong i L W)) (sym (append-nil hs)) s
  plain_left false = s

  mine_held : (c : Call) (h : Handle) → counts c ≡ false → Strong i L W h
      → Mine c h.inode h.file h.how hs i L W
  mine_held c h n p = (
    (λ e. (p e).0),
    each_map (Strong i L W) (But h.inode h.file i L W) (λ x q e. ((q e).0, (λ z. (q e).1))) hs s,
    (λ k. absurd (cc)),
  )

  settled_held : (h : Handle) → Strong i L W h → At h.inode h.file i L Settled
  settled_held h p e = (p e).1

  close_ready : (c : Call) (h : Handle) (b : Bool) → is_writer h.how ≡ b → counts c ≡ false
      → Strong i L W h → Closes c reply.Done h.inode h.file h.how hs i
      → Ready c (cond b ask.CloseTake ask.Close) reply.Done h.inode h.file h.how hs i L W
  close_ready c h true w k p n = (mine_held c h k p, (w, n), settled_held h p)
  close_ready c h false w k p n = (mine_held c h k p, (w, n), settled_held h p)

  without_left : (n : Name) (h : Handle) → handle_of n hs ≡ Some h
      → nat_le (names_of h.inode h.file hs) 1 ≡ true
      → Each (NoName h.inode h.file i) (without n hs ++ [])
  without_left n h f l =
      subst (Each (NoName h.inode h.file i)) (sym (append-nil (without n hs)))
      (only_name i n hs h f (few (names_of h.inode h.file hs) l)) where
        few : (k : ℕ) → nat_le k 1 ≡ true → k ≤ 1
        few k e = leb-true k 1 e

  rest_left : (n : Name) → Each (Strong i L W) (without n hs ++ [])
  rest_left n =
      subst (Each (Strong i L W)) (sym (append-nil (without n hs)))
      (each_without (Strong i L W) n hs s)

  abbrev PlanReady : Call → Due → ℕ → ℕ → How → Type 0
  PlanReady c p gi gf hw = Ready c p.ask p.reply gi gf hw hs i L W

  abbrev begun_with : Call → Hand → Progress
  begun_with c hand =
      record {
        due = first c hand;
        step = 0;
        inode = inode_of c hand.held;
        file = file_of hand.held;
        how = how_held c hand.held;
      }

  abbrev hand_with : Option Handle → Bool → Hand
  hand_with o free = record { held = option_map (held_by hs) o; free = free; admin = admin }

  held_test : (c : Call) (h : Handle) (k : Ask) (b : Bool)
      → (b ≡ true → Ready c k reply.Done h.inode h.file h.how hs i L W)
      → PlanReady c (cond b (due k reply.Done) (at_once reply.BadFile)) h.inode h.file h.how
  held_test c h k true f = f refl
  held_test c h k false f = s

  found : (n : Name) (h : Handle) → handle_of n hs ≡ Some h → Strong i L W h
  found n h f = each_find (Strong i L W) n hs h s f

  last_test : (c : Call) (h : Handle) (n : Name) → handle_of n hs ≡ Some h → counts c ≡ false
      → left c reply.Done h.inode h.file h.how hs ≡ without n hs ++ [] → (b : Bool)
      → nat_le (names_of h.inode h.file hs) 1 ≡ b
      → PlanReady c (cond b (due (close h.how) reply.Done)
      (at_once reply.Done)) h.inode h.file h.how
  last_test c h n f k e true l =
      close_ready c h (is_writer h.how) refl k (found n h f)
      (subst (Each (NoName h.inode h.file i)) (sym e) (without_left n h f l))
  last_test c h n f k e false l = subst (Each (Strong i L W)) (sym e) (rest_left n)

  close_begins : (fd : ℕ) (o : Option Handle) → handle_of (name.Descriptor fd) hs ≡ o
      → Begins (call.Close fd) (begun_with (call.Close fd) (hand_with o true))
  close_begins fd None f = s
  close_begins fd (Some h) f =
      last_test (call.Close fd) h (name.Descriptor fd) f refl refl
      (nat_le (names_of h.inode h.file hs) 1) refl

  unmap_begins : (map : ℕ) (o : Option Handle) → handle_of (name.Map map) hs ≡ o
      → Begins (call.Munmap map) (begun_with (call.Munmap map) (hand_with o true))
  unmap_begins map None f = s
  unmap_begins map (Some h) f =
      last_test (call.Munmap map) h (name.Map map) f refl refl
      (nat_le (names_of h.inode h.file hs) 1) refl

  end_begins : (run : ℕ) (o : Option Handle) → handle_of (name.Run run) hs ≡ o
      → Begins (call.Endexec run) (begun_with (call.Endexec run) (hand_with o true))
  end_begins run None f = s
  end_begins run (Some h) f =
      last_test (call.Endexec run) h (name.Run run) f refl refl
      (nat_le (names_of h.inode h.file hs) 1) refl

  read_begins : (fd from len : ℕ) (o : Option Handle) → handle_of (name.Descriptor fd) hs ≡ o
      → Begins (call.Read fd from len) (begun_with (call.Read fd from len) (hand_with o true))
  read_begins fd from len None f = s
  read_begins fd from len (Some h) f =
      held_test (call.Read fd from len) h (ask.Read from len) (can_read h.how)
      (λ q. (
        mine_held (call.Read fd from len) h refl (found (name.Descriptor fd) h f),
        q,
        settled_held h (found (name.Descriptor fd) h f),
      ))

  mread_begins : (map from len : ℕ) (o : Option Handle) → handle_of (name.Map map) hs ≡ o
      → Begins (call.Mread map from len) (begun_with (call.Mread map from len) (hand_with o true))
  mread_begins map from len None f = s
  mread_begins map from len (Some h) f =
      held_test (call.Mread map from len) h (ask.Read from len) (can_read h.how)
      (λ q. (
        mine_held (call.Mread map from len) h refl (found (name.Map map) h f),
        q,
        settled_held h (found (name.Map map) h f),
      ))

  write_begins : (fd from : ℕ) (bytes : List ℕ) (o : Option Handle)
      → handle_of (name.Descriptor fd) hs ≡ o
      → Begins (call.Write fd from bytes) (begun_with (call.Write fd from bytes) (hand_with o true))
  write_begins fd from bytes None f = s
  write_begins fd from bytes (Some h) f =
      held_test (call.Write fd from bytes) h ask.Write (is_writer h.how)
      (λ q. (
        mine_held (call.Write fd from bytes) h refl (found (name.Descriptor fd) h f),
        (q, tt),
        settled_held h (found (name.Descriptor fd) h f),
      ))

  trunc_begins : (fd len : ℕ) (o : Option Handle) → handle_of (name.Descriptor fd) hs ≡ o
      → Begins (call.Ftruncate fd len) (begun_with (call.Ftruncate fd len) (hand_with o true))
  trunc_begins fd len None f = s
  trunc_begins fd len (Some h) f =
      held_test (call.Ftruncate fd len) h (ask.Trunc len) (is_writer h.how)
      (λ q. (
        mine_held (call.Ftruncate fd len) h refl (found (name.Descriptor fd) h f),
        q,
        settled_held h (found (name.Descriptor fd) h f),
      ))

  map_plan : (map fd : ℕ) (exec : Bool) (h : Handle) → Strong i L W h → (b : Bool)
      → PlanReady (call.Mmap map fd exec) (cond b
      (cond exec (due (check (course_of (call.Mmap map fd exec))) reply.Done)
      (at_once reply.Done)) (at_once reply.BadFile)) h.inode h.file h.how
  map_plan map fd exec h p false = s
  map_plan map fd true h p true =
      (mine_held (call.Mmap map fd true) h refl p, refl, (λ e. ap may_check (p e).1))
  map_plan map fd false h p true = each_append (Strong i L W) hs _ s ((λ e. p e), tt)

  map_begins : (map fd : ℕ) (exec free : Bool) (o : Option Handle)
      → handle_of (name.Descriptor fd) hs ≡ o
      → Begins (call.Mmap map fd exec) (begun_with (call.Mmap map fd exec) (hand_with o free))
  map_begins map fd exec false None f = s
  map_begins map fd exec false (Some h) f = s
  map_begins map fd exec true None f = s
  map_begins map fd exec true (Some h) f =
      map_plan map fd exec h (found (name.Descriptor fd) h f) (can_read h.how)

  open_begins : (fd inode : ℕ) (h : How) (trunc free : Bool)
      → Begins (call.Open fd inode h trunc) (begun_with (call.Open fd inode h trunc)
      (hand_with None free))
  open_begins fd inode h trunc true = (refl, refl, s)
  open_begins fd inode h trunc false = s

  exec_begins : (run inode : ℕ) (free : Bool)
      → Begins (call.Exec run inode) (begun_with (call.Exec run inode) (hand_with None free))
  exec_begins run inode true = (refl, refl, s)
  exec_begins run inode false = s

  pub begins : (c : Call) → Begins c (begun admin hs c)
  begins (call.Open fd inode h trunc) =
      open_begins fd inode h trunc (is_free (name.Descriptor fd) hs)
  begins (call.Read fd from len) = read_begins fd from len (handle_of (name.Descriptor fd) hs) refl
  begins (call.Write fd from bytes) =
      write_begins fd from bytes (handle_of (name.Descriptor fd) hs) refl
  begins (call.Ftruncate fd len) = trunc_begins fd len (handle_of (name.Descriptor fd) hs) refl
  begins (call.Close fd) = close_begins fd (handle_of (name.Descriptor fd) hs) refl
  begins (call.Mmap map fd exec) =
      map_begins map fd exec (is_free (name.Map map) hs) (handle_of (name.Descriptor fd) hs) refl
  begins (call.Mread map from len) = mread_begins map from len (handle_of (name.Map map) hs) refl
  begins (call.Munmap map) = unmap_begins map (handle_of (name.Map map) hs) refl
  begins (call.Exec run inode) = exec_begins run inode (is_free (name.Run run) hs)
  begins (call.Endexec run) = end_begins run (handle_of (name.Run run) hs) refl
  begins (call.SetAttr inode name value) = (tt, s)
  begins (call.SetMeta inode change) = (tt, s)
  begins (call.Post sem) = plain_left true
  begins (call.Wait sem) = plain_left true
  begins (call.AddRule rule) = rule_plan admin where
    rule_plan : (b : Bool) → Ready (call.AddRule rule) ask.Plain
        (cond b reply.Done reply.NotAdmin) 0 0 (how_of (course_of (call.AddRule rule))) hs i L W
    rule_plan true = plain_left true
    rule_plan false = s
  begins (call.Module inode) = (refl, refl, s)
  begins (call.Firmware inode) = (refl, refl, s)
