use Rattle.std.proofs.Common.{◌≡◌, Option, Some, false, refl, sym, ◌∙◌, ap, subst}
use Rattle.hash_algos.specs.declared.digest.Digest.{Digest}
use Rattle.inode_events.specs.Checks.{last_check}
use Rattle.inode_events.specs.Files.{held, holds, is_writer}
use Rattle.inode_events.specs.Integrity.{attributes, collecting, fixed_by}
use Rattle.inode_events.specs.NewestFirst.{newest_first}
use Rattle.inode_events.specs.Stage.{is_gone, stage}
use Rattle.inode_events.specs.State.{metadata}
use Rattle.inode_events.specs.declared.deed.Deed.TheVariants as deed
use Rattle.inode_events.specs.declared.deed.How.{How}
use Rattle.inode_events.specs.declared.told.Told.TheVariants as told
use Rattle.inode_state.specs.Collecting.{IsAsked}
use Rattle.inode_state.specs.Facts.{AreFacts}
use Rattle.inode_state.specs.declared.facts.Facts.{Facts}
use Rattle.inode_cell.specs.Granting.{Collects}
use Rattle.inode_cell.specs.Value.{CellValue}
use Rattle.inode_cell.proofs.GrantLemmas.{finish_asks, finish_digest, finish_sums, finish_tells}
use Rattle.inode_cell.proofs.Guarding.{finish_sha1}
use Rattle.inode_cell.proofs.cell.InodeCell.finish.Goals as goal

pub grant-requires-clause-grants : goal.grant-requires-clause-grants
grant-requires-clause-grants c =
    let v = c.args.self.now in
    let i = v.inode in
    let p = newest_first v.list in
    let file = c.args.file in
    let open_is : Collects file (collecting i p) = c.asked_for-asked.ensures.collects in
    let check : IsAsked (last_check file p) c.asked_for-asked.result =
    c.asked_for-asked.ensures.asked in
    let how : is_gone (stage i file p) ≡ false → c.how_at.result ≡ held file p =
    subst (λ (v : CellValue). is_gone (stage v.inode file (newest_first v.list)) ≡ false
    → c.how_at.result ≡ held file (newest_first v.list)) c.self.view_is c.how_at.ensures in
    record {
      check = check;
      sha1 = finish_sha1 file c.args.sums (collecting i p) open_is c.requires.sums;
      tells = λ placed. finish_tells i file placed p c.args.sums (collecting i p) open_is
          c.requires.sums;
      asks = finish_asks i file p (last_check file p).action.measure c.args.sums (collecting i p)
          open_is c.requires.sums;
      leaves = λ g. ap (λ (o : Option Digest). fixed_by i g.labelled o (metadata p) (attributes i
          p)) (finish_digest file c.args.sums (collecting i p) open_is c.requires.sums);
      keeps = λ g. refl;
      facts = λ g. subst (λ (k : Facts). AreFacts i p (record {
        who = c.args.who;
        deed = deed.Finish
            file;
        told = told.Grant g;
      }) k) (sym c.granting-facts.ensures) (record {
        gone = refl;
        writing = c.counts_as-writing.ensures ∙ ap (λ (o : Option How). holds is_writer o) (how (ap
            is_gone c.requires.may.may));
        algo = tt;
        asked = (c.copy.result, (refl, subst (IsAsked (last_check file p)) (sym c.copy.ensures) check));
        sums = finish_sums file c.args.sums (collecting i p) open_is c.requires.sums
            ∙ ap Some (sym c.copy-2.ensures);
      });
    }
