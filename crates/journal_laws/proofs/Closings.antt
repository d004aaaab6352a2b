-- A last writer's close hashes the content as it is when the close ends.
use Rattle.std.proofs.Common.{◌≡◌, ℕ, ◌<◌, Bool, true, false, cond, List, Option, Some, None, refl, ◌∙◌, ap, subst, arith}
use Rattle.std.specs.Prelude.{◌==◌, option_map}
use Rattle.std.proofs.lemmas.Bool.{cond-true, eqb-true}
use Rattle.hash_algos.specs.Digest.{digest_of}
use Rattle.hash_algos.specs.declared.algo.Algo.{Algo}
use Rattle.hash_algos.specs.declared.digest.Digest.{Digest}
use Rattle.inode_meta.specs.declared.step.Who.{Who}
use Rattle.inode_events.specs.Files.{writers}
use Rattle.inode_events.specs.Inode.{Inode}
use Rattle.inode_events.specs.Integrity.{Collection, attributes, chosen_algo, collecting, digest_from, labelled_by, labelled_with}
use Rattle.inode_events.specs.Legal.{EachFollows, Follows}
use Rattle.inode_events.specs.Stage.{stage, is_collecting}
use Rattle.inode_events.specs.Stage.{CloseCollected}
use Rattle.inode_events.specs.State.{content, metadata, modified_since}
use Rattle.inode_events.specs.Says.{close_finish_told}
use Rattle.inode_events.specs.declared.deed.Deed.TheVariants as deed
use Rattle.inode_events.specs.declared.told.Event.{Event}
use Rattle.inode_events.specs.declared.told.Told.TheVariants as told
use Rattle.journal_laws.proofs.Fresh.{CollectionIs, Fresh}
use Rattle.journal_laws.proofs.FreshSteps.{finished, freshness_lem}
use Rattle.journal_laws.proofs.Stages.{Busy, Stages, stages}
use Rattle.journal_laws.specs.Laws.{labelled_close}

-- the label is written only if one writer is left
one_left : (n : ℕ) → Some (close_finish_told n) ≡ Some told.LabelledDropped → n ≡ 1
one_left n e = at (n == 1) refl e where
  at : (b : Bool) → (n == 1) ≡ b
      → Some (cond b told.LabelledDropped told.Dropped) ≡ Some told.LabelledDropped → n ≡ 1
  at true q f = eqb-true n 1 q
  at false q f = cc

-- if a close's writer is the only one, its collection gives the digest of the present content
closed_digest : (i : Inode) (p : List Event) (c : Collection) → CollectionIs i p (Some c)
    → c.closing ≡ true → c.complete ≡ true → writers p ≡ 1
    → digest_from c ≡ digest_of i.settings.hash (content p)
closed_digest i p c h k m one = at (modified_since c.begin p) refl where
  at : (b : Bool) → modified_since c.begin p ≡ b → digest_from c ≡ digest_of i.settings.hash
      (content p)
  at true w =
      let many : cond c.closing 1 0 < writers p = h.1 w in
      let two : 1 < writers p = rw k at many in absurd (omega arith)
  at false w =
      ap (λ (x : List ℕ). digest_of c.algo x) ((h.2 w).1 m)
      ∙ ap (λ (x : Algo). digest_of x (content p))
      (h.3 ∙ cond-true c.closing i.settings.hash (chosen_algo i p) k)

-- the label that a close writes is that of the present content's digest
labelled_lem : (i : Inode) (p : List Event) (file : ℕ) → stage i file p ≡ CloseCollected
    → writers p ≡ 1 → Stages i p → Fresh i p → (o : Option Collection) → collecting i p ≡ o
    → labelled_by i (option_map digest_from o) (metadata p) (attributes i p) ≡ labelled_with i
    (digest_of i.settings.hash (content p)) (metadata p) (attributes i p)
labelled_lem i p file l one s fr None e =
    let b : Busy i p None = subst (λ (x : Option Collection). Busy i p x) e s.0 in
    absurd (b file (ap is_collecting l))
labelled_lem i p file l one s fr (Some c) e =
    let ends : (c.file ≡ file) × (c.closing ≡ true) × (c.complete ≡ true) =
    finished i p file true l s c e in
    let ci : CollectionIs i p (Some c) = subst (λ (o : Option Collection). CollectionIs i p o) e
    fr.collection_is in
    ap (λ (d : Digest). labelled_with i d (metadata p) (attributes i p))
    (closed_digest i p c ci ends.1 ends.2 one)

-- the law, for a close that wrote the label
pub labelled : (i : Inode) (p : List Event) (who : Who) (file : ℕ)
    → Follows i p who (deed.CloseFinish file) told.LabelledDropped → EachFollows i p
    → attributes i (labelled_close who file p) ≡ labelled_with i
    (digest_of i.settings.hash (content p)) (metadata p) (attributes i p)
labelled i p who file h l =
    ap (λ (o : Option Collection). labelled_by i (option_map digest_from o) (metadata p)
    (attributes i p)) refl
    ∙ labelled_lem i p file h.1 (one_left (writers p) h.2) (stages i p l) (freshness_lem i p l)
    (collecting i p) refl
