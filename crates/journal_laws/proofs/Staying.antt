-- Events of other callers leave a caller's collection.
use Rattle.std.proofs.Common.{◌≡◌, ◌≢◌, ℕ, Bool, true, false, List, [], ◌∷◌, ◌++◌, length, Option, Some, None, refl, sym, ◌∙◌, ap}
use Rattle.std.specs.Prelude.{◌==◌}
use Rattle.std.proofs.lemmas.Bool.{cond-false, eq-eqb}
use Rattle.std.proofs.lemmas.Option.{same_Some}
use Rattle.inode_meta.specs.declared.step.Who.{Who}
use Rattle.inode_events.specs.Callers.{caller_of}
use Rattle.inode_events.specs.Inode.{Inode}
use Rattle.inode_events.specs.Integrity.{Collection, collecting}
use Rattle.inode_events.specs.Legal.{Follows}
use Rattle.inode_events.specs.Stage.{stage, touches, is_collecting}
use Rattle.inode_events.specs.declared.deed.Deed.{Deed}
use Rattle.inode_events.specs.declared.deed.Deed.TheVariants as deed
use Rattle.inode_events.specs.declared.told.Event.{Event}
use Rattle.inode_events.specs.declared.told.Told.{Told}
use Rattle.inode_events.specs.declared.told.Told.TheVariants as told
use Rattle.journal_laws.proofs.Stages.{Collects, Stages, stages, free_at}
use Rattle.journal_laws.proofs.Small.{event}
use Rattle.journal_laws.specs.Own.{IsOwned, counter}
use Rattle.journal_laws.specs.OwnLaws.{CollectionStays}
use Rattle.journal_laws.proofs.Owning.{counter_more, not_here, touched}

-- a collection is of only one file
other_file : (o : Option Collection) (f g : ℕ) → Collects f o → Collects g o → (g == f) ≡ false → ⊥
other_file None f g a b ne = a
other_file (Some c) f g a b ne = let y : (g == f) ≡ true = eq-eqb g f (sym b ∙ a) in cc

-- if a file collects, a collection is open
not_free : (o : Option Collection) (f : ℕ) → Collects f o → o ≡ None → ⊥
not_free None f a e = a
not_free (Some c) f a e = cc

-- an event that doesn't touch the file of the open collection leaves it
calm : (i : Inode) (f : ℕ) (p : List Event) (who : Who) (d : Deed) (t : Told) → Follows i p who d t
    → Stages i p → is_collecting (stage i f p) ≡ true
    → touches f (length p) d ≡ false → collecting i (event who d t ∷ p) ≡ collecting i p
calm i f p who (deed.Take g) told.Begun h s b n =
    absurd (not_free (collecting i p) f (s.0 f b) (free_at (collecting i p) _ _ h.2))
calm i f p who (deed.CloseTake g) told.Begun h s b n =
    absurd (not_free (collecting i p) f (s.0 f b) (free_at (collecting i p) _ _ h.2))
calm i f p who (deed.Chunk g) told.More h s b n =
    absurd (other_file (collecting i p) f g (s.0 f b) (s.0 g (ap is_collecting h.1)) n)
calm i f p who (deed.Chunk g) told.Last h s b n =
    absurd (other_file (collecting i p) f g (s.0 f b) (s.0 g (ap is_collecting h.1)) n)
calm i f p who (deed.CloseChunk g) told.More h s b n =
    absurd (other_file (collecting i p) f g (s.0 f b) (s.0 g (ap is_collecting h.1)) n)
calm i f p who (deed.CloseChunk g) told.Last h s b n =
    absurd (other_file (collecting i p) f g (s.0 f b) (s.0 g (ap is_collecting h.1)) n)
calm i f p who (deed.Finish g) (told.Grant grant) h s b n =
    absurd (other_file (collecting i p) f g (s.0 f b) (s.0 g (ap is_collecting h.1)) n)
calm i f p who (deed.CloseFinish g) told.Dropped h s b n =
    absurd (other_file (collecting i p) f g (s.0 f b) (s.0 g (ap is_collecting h.1)) n)
calm i f p who (deed.CloseFinish g) told.LabelledDropped h s b n =
    absurd (other_file (collecting i p) f g (s.0 f b) (s.0 g (ap is_collecting h.1)) n)
calm i f p who d t h s b n = refl

-- later events leave who counted a file
pub counter_later : (f n : ℕ) (later p : List Event) → counter f p ≡ Some n
    → counter f (later ++ p) ≡ Some n
counter_later f n [] p h = h
counter_later f n (e ∷ later) p h = counter_more f n e (later ++ p) (counter_later f n later p h)

-- an event of another caller doesn't touch the file
untouched : (f n : ℕ) (e : Event) (p : List Event) → IsOwned (e ∷ p) → counter f p ≡ Some n
    → caller_of e ≢ n
    → (b : Bool) → touches f (length p) e.deed ≡ b → b ≡ false
untouched f n e p o c ne true t =
    absurd (ne
    (same_Some (caller_of e) n (sym (o.0 f (touched f (length p) e.deed (not_here f n p c) t))
    ∙ c)))
untouched f n e p o c ne false t = refl

-- the law, by induction on the later events
pub collection_own : CollectionStays
collection_own i n f [] p legal owned none c b = (refl, refl)
collection_own i n f (e ∷ later) p legal owned none c b =
    let ih = collection_own i n f later p legal.1 owned.1 none.1 c b in
    let q = counter_later f n later p c in
    let apart : touches f (length (later ++ p)) e.deed ≡ false =
    untouched f n e (later ++ p) owned q none.0 (touches f (length (later ++ p)) e.deed) refl in
    let busy : is_collecting (stage i f (later ++ p)) ≡ true = ap is_collecting ih.0 ∙ b in (
      cond-false (touches f (length (later ++ p)) e.deed) _ (stage i f (later ++ p)) apart ∙ ih.0,
      calm i f (later ++ p) e.who e.deed e.told legal.0 (stages i (later ++ p) legal.1) busy apart
          ∙ ih.1,
    )
