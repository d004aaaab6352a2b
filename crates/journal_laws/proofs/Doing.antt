-- A deed that own entries allow may be done.
use Rattle.std.proofs.Common.{◌≡◌, ℕ, Bool, true, false, List, Some, refl, ◌∙◌, ap, subst}
use Rattle.std.specs.Prelude.{◌==◌}
use Rattle.std.proofs.lemmas.Bool.{eqb-true}
use Rattle.inode_events.specs.Files.{can_read, held, holds, is_writer}
use Rattle.inode_events.specs.Inode.{Inode}
use Rattle.inode_events.specs.Legal.{EachFollows, May}
use Rattle.inode_events.specs.Stage.{Stage, stage, may_check, is_gone, stage_in}
use Rattle.inode_events.specs.Stage.{Asked, Collecting, Collected, Settled, CloseCollecting, CloseCollected}
use Rattle.inode_events.specs.declared.deed.Deed.{Deed}
use Rattle.inode_events.specs.declared.deed.Deed.TheVariants as deed
use Rattle.inode_events.specs.declared.deed.How.{How}
use Rattle.inode_events.specs.declared.told.Event.{Event}
use Rattle.journal_laws.proofs.Lives.{check_alive}
use Rattle.journal_laws.specs.Own.{IsBy, IsOwned, MayByOwn, counter, how_in, own_past}
use Rattle.journal_laws.specs.OwnLaws.{MayIsOwn}
use Rattle.journal_laws.proofs.Owning.{file_own, stage_own}
use Rattle.journal_laws.proofs.OwnHolding.{how_own}

module _ (i : Inode) (n : ℕ) (p : List Event) (legal : EachFollows i p) (owned : IsOwned p) where
  -- a file that isn't gone according to the entries is at the stage that they say
  stands : (f : ℕ) → is_gone (stage_in i f (own_past n p)) ≡ false
      → stage i f p ≡ stage_in i f (own_past n p)
  stands f a = stage_own i n f p owned (file_own i n f p owned a)

  by : (f g : ℕ) → is_gone (stage_in i f (own_past n p)) ≡ false → (f == g) ≡ true
      → counter g p ≡ Some n
  by f g a e = subst (λ (x : ℕ). counter x p ≡ Some n) (eqb-true f g e) (file_own i n f p owned a)

  -- the file is held in the way that the entries say
  held_so : (f : ℕ) → is_gone (stage_in i f (own_past n p)) ≡ false
      → held f p ≡ how_in f (own_past n p)
  held_so f a = how_own i n f p legal (file_own i n f p owned a) (ap is_gone (stands f a) ∙ a)

  -- a file at this stage according to the entries is at it, and is the caller's
  at_stage : (f : ℕ) (s : Stage) → is_gone s ≡ false → stage_in i f (own_past n p) ≡ s
      → (stage i f p ≡ s) × ((g : ℕ) → (f == g) ≡ true → counter g p ≡ Some n)
  at_stage f s a e =
      let alive : is_gone (stage_in i f (own_past n p)) ≡ false = ap is_gone e ∙ a in
      (stands f alive ∙ e, (λ g. by f g alive))

  -- a file that is settled according to the entries is settled, and its mode of opening passes the
  -- test if they say so
  settled : (f : ℕ) (test : How → Bool) (b : Bool) → stage_in i f (own_past n p) ≡ Settled
      → holds test (how_in f (own_past n p)) ≡ b
      → ((stage i f p ≡ Settled) × (holds test (held f p) ≡ b))
      × ((g : ℕ) → (f == g) ≡ true → counter g p ≡ Some n)
  settled f test b e t =
      let alive : is_gone (stage_in i f (own_past n p)) ≡ false = ap is_gone e in
      ((stands f alive ∙ e, ap (holds test) (held_so f alive) ∙ t), (λ g. by f g alive))

  may : (d : Deed) → MayByOwn i (own_past n p) d → May i p d × IsBy n d p
  may (deed.Count how) m = (tt, λ f e. absurd (cc))
  may (deed.Check file func action rules) m =
      let alive : is_gone (stage_in i file (own_past n p)) ≡ false =
      check_alive (stage_in i file (own_past n p)) m in
      (ap may_check (stands file alive) ∙ m, (λ g. by file g alive))
  may (deed.Take file) m = at_stage file Asked refl m
  may (deed.Chunk file) m = at_stage file Collecting refl m
  may (deed.Finish file) m = at_stage file Collected refl m
  may (deed.Read file from len) m = settled file can_read true m.0 m.1
  may (deed.Write file from bytes) m =
      let s = settled file is_writer true m.0 m.1 in ((s.0.0, s.0.1, m.2), s.1)
  may (deed.Trunc file len) m = settled file is_writer true m.0 m.1
  may (deed.SetAttr name bytes admin) m = (tt, λ f e. absurd (cc))
  may (deed.SetMeta change) m = (tt, λ f e. absurd (cc))
  may (deed.Close file) m = settled file is_writer false m.0 m.1
  may (deed.CloseTake file) m = settled file is_writer true m.0 m.1
  may (deed.CloseChunk file) m = at_stage file CloseCollecting refl m
  may (deed.CloseFinish file) m = at_stage file CloseCollected refl m
  may deed.Birth m = absurd m
  may (deed.Post sem) m = absurd m
  may (deed.Wait sem) m = absurd m

-- the law of allowed deeds
pub may_own : MayIsOwn
may_own i n p d legal owned m = may i n p legal owned d m
