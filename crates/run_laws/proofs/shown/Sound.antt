-- The laws of journals at each place of a shown run.
use Rattle.std.proofs.Common.{◌≡◌, ℕ, zero, suc, List, [], ◌∷◌, Some, sym, ◌∙◌, ap, subst}
use Rattle.std.specs.Prelude.{All, slice_get}
use Rattle.std.proofs.lemmas.List.Elements.{All-contains, All-head, All-tail}
use Rattle.std.proofs.lemmas.Option.{get_or_from_slice_get, same_Some, slice_get_within}
use Rattle.ima_templates.specs.Path.{IsMeasuredPath}
use Rattle.inode_meta.specs.declared.measurement.Template.TheVariants.{Ima}
use Rattle.inode_events.specs.Inode.{Inode}
use Rattle.inode_events.specs.Legal.{EachFollows, Legal}
use Rattle.inode_events.specs.Listing.{IsListed}
use Rattle.inode_events.specs.Merged.{Journal}
use Rattle.inode_events.specs.Integrity.{attributes, label, label_in, labelled_with}
use Rattle.inode_events.specs.NewestFirst.{newest_first}
use Rattle.inode_events.specs.State.{content, metadata}
use Rattle.inode_events.specs.declared.deed.Deed.TheVariants as deed
use Rattle.inode_events.specs.declared.told.Told.TheVariants as told
use Rattle.hash_algos.specs.Digest.{digest_of}
use Rattle.hash_algos.specs.declared.algo.Algo.{Algo}
use Rattle.label_values.specs.Labels.{label_of}
use Rattle.inode_events.specs.declared.told.Event.{Event}
use Rattle.journal_laws.proofs.Admitting.{admits_lem}
use Rattle.journal_laws.proofs.Closings.{labelled}
use Rattle.journal_laws.proofs.Counting.{few_takes}
use Rattle.journal_laws.proofs.Covered.{covered, follows_at}
use Rattle.journal_laws.proofs.Executed.{listed_before}
use Rattle.journal_laws.proofs.Labels.{label-put}
use Rattle.journal_laws.specs.Laws.{labelled_close}
use Rattle.journal_laws.proofs.Fresh.{fresh_at}
use Rattle.journal_laws.proofs.FreshSteps.{freshness_lem}
use Rattle.call_steps.specs.declared.ending.Ending.{Ending}
use Rattle.run_model.specs.Scene.{Scene, ScriptFile, inode_of}
use Rattle.run_model.specs.Served.{Run}
use Rattle.run_model.specs.Shown.{IsShown, journals_of}
use Rattle.run_laws.proofs.shown.Denied.{denied_there}
use Rattle.run_laws.proofs.shown.Named.{list_named}
use Rattle.run_laws.specs.shown.Laws.{ShownIsAdmitted, ShownIsCovered, ShownIsFresh, ShownIsLabelled, ShownIsRarelyHashed, ShownIsSound}
use Rattle.run_laws.specs.shown.Places.{HasForms, Stood}

-- a property of all journals of the scene holds of this one
pub journal_has : (P : Journal → Type 0) (scene : Scene) (script_files : List ScriptFile)
    (journals : List (List Event)) (n : ℕ) (s : ScriptFile) (j : List Event)
    → All P (journals_of scene script_files journals) → slice_get script_files n ≡ Some s
    → slice_get journals n ≡ Some j → P (record {
      inode = inode_of scene s;
      events = newest_first j;
    })
journal_has P scene [] journals n s j all e f = absurd (cc)
journal_has P scene (x ∷ script_files) [] n s j all e f = absurd (cc)
journal_has P scene (x ∷ script_files) (y ∷ journals) zero s j all e f =
    subst (λ (z : Journal). P z)
    (λ i. record {
      inode = inode_of scene (same_Some x s e i);
      events = newest_first (same_Some y j f i);
    })
    (All-head P (record { inode = inode_of scene x; events = newest_first y })
    (journals_of scene script_files journals) all)
journal_has P scene (x ∷ script_files) (y ∷ journals) (suc n) s j all e f =
    journal_has P scene script_files journals n s j
    (All-tail P (record { inode = inode_of scene x; events = newest_first y })
    (journals_of scene script_files journals) all) e f

-- the events before any place of a shown run's journal are legal
pub legal_there : (scene : Scene) (ending : Ending) (run : Run) (inode : Inode) (p : List Event)
    → IsShown scene ending run → Stood scene run inode p → Legal inode p
legal_there scene ending run inode p shown s = (
  s.born,
  follows_at inode s.later p (subst (λ (l : List Event). EachFollows inode l) s.is
      (subst (λ (i : Inode). EachFollows i (newest_first s.journal)) s.inode_is
      (journal_has (λ (j : Journal). Legal j.inode j.events) scene scene.script_files run.journals
      s.number s.script_file s.journal shown.legal s.at s.journal_at).1)),
)

pub listed_there : (scene : Scene) (ending : Ending) (run : Run) (inode : Inode) (p : List Event)
    → IsShown scene ending run → Stood scene run inode p → IsListed inode run.list p
listed_there scene ending run inode p shown s =
    listed_before inode run.list s.later p
    (subst (λ (l : List Event). IsListed inode run.list l) s.is
    (subst (λ (i : Inode). IsListed i run.list (newest_first s.journal)) s.inode_is
    (journal_has (λ (j : Journal). IsListed j.inode run.list j.events) scene scene.script_files
    run.journals s.number s.script_file s.journal shown.merged.listed s.at s.journal_at)))

-- the path of the inode is one of the scene's, and so has their form
pub path_there : (scene : Scene) (run : Run) (inode : Inode) (p : List Event)
    → HasForms scene → Stood scene run inode p → IsMeasuredPath Ima inode.path
path_there scene run inode p forms s =
    subst (λ (i : Inode). IsMeasuredPath Ima i.path) s.inode_is
    (All-contains (λ (x : ScriptFile). IsMeasuredPath Ima x.path) scene.script_files s.script_file
    forms.paths (
      s.number,
      slice_get_within scene.script_files s.number s.script_file s.at,
      get_or_from_slice_get scene.script_files s.number s.script_file s.script_file s.at,
    ))

-- ---- the laws

-- proof of `ShownIsFresh`
pub fresh_there : ShownIsFresh
fresh_there scene ending run shown inode p s none =
    fresh_at inode p (freshness_lem inode p (legal_there scene ending run inode p shown s).1) none

-- proof of `ShownIsCovered`
pub covered_there : ShownIsCovered
covered_there scene ending run shown forms inode p who file from len t s reads =
    let legal = legal_there scene ending run inode
    (record { who = who; deed = deed.Read file from len; told = t } ∷ p) shown s in
    let listed = listed_there scene ending run inode
    (record { who = who; deed = deed.Read file from len; told = t } ∷ p) shown s in
    covered inode run.list p file legal.1.1 legal.1.0.1.0 reads listed.2
    (path_there scene run inode (record { who = who; deed = deed.Read file from len; told = t } ∷ p)
    forms s) (list_named scene ending run forms shown)

-- proof of `ShownIsAdmitted`
pub admitted_there : ShownIsAdmitted
admitted_there scene ending run shown inode p who d grant file s e mode appraises =
    let legal = legal_there scene ending run inode
    (record { who = who; deed = d; told = told.Grant grant } ∷ p) shown s in
    admits_lem inode p who d grant file legal.1.0 legal.1.1 e
    (ap (λ (i : Inode). i.settings.mode) (sym s.inode_is) ∙ mode) appraises

-- proof of `ShownIsLabelled`
pub labelled_there : ShownIsLabelled
labelled_there scene ending run shown inode p who file s =
    let legal = legal_there scene ending run inode (labelled_close who file p) shown s in
    let attrs = labelled inode p who file legal.1.0 legal.1.1 in
    subst (λ (hash : Algo). (attributes inode (labelled_close who file p) ≡ labelled_with inode
    (digest_of hash (content p)) (metadata p) (attributes inode p))
    × (label inode (labelled_close who file p) ≡ Some (label_of (digest_of hash (content p)))))
    (ap (λ (i : Inode). i.settings.hash) (sym s.inode_is)) (
      attrs,
      ap label_in attrs
          ∙ label-put inode.settings.evm (attributes inode p)
          (label_of (digest_of inode.settings.hash (content p))) (metadata p),
    )

-- proof of `ShownIsRarelyHashed`
pub rare_there : ShownIsRarelyHashed
rare_there scene ending run shown inode p s =
    few_takes inode p (legal_there scene ending run inode p shown s).1

-- proof of `ShownIsSound`
pub sound_there : ShownIsSound
sound_there scene ending run shown forms = record {
  fresh = fresh_there scene ending run shown;
  covered = covered_there scene ending run shown forms;
  admitted = admitted_there scene ending run shown;
  denied = denied_there scene ending run shown;
  labelled = labelled_there scene ending run shown;
  rarely_hashed = rare_there scene ending run shown;
}
