use Rattle.std.proofs.Common.{codes}
use Rattle.report_events.specs.Numerals.{numeral}
use Rattle.hex.specs.Hex.{encode_lower}
use Rattle.inode_meta.specs.declared.measurement.Bank.TheVariants.{Sha1, Sha256}
use Rattle.pcr_bank.specs.Banks.{register}
use Rattle.report_text.proofs.Pushed.{register_pushed}
use Rattle.report_events.proofs.Joins.{last_pushed}
use Rattle.report_text.proofs.lists.push_values.Goals as goal

pub returns : goal.returns
returns c =
    last_pushed c.extend_from_slice.result c.append_hex-2.new.out.items (codes "\n")
    c.extend_from_slice.new.self.items c.extend_from_slice.ensures.items
    (λ pushed. rw (
      pushed,
      c.in_ok-append_hex-2.ensures.ok,
      c.in_ok-push_numbered-2.ensures,
      c.in_ok-append_hex.ensures.ok,
      c.in_ok-push_numbered.ensures,
      c.value-2.ensures,
      c.value.ensures,
      c.from-number.ensures,
    )
    (register_pushed c.args.out.now.items (numeral c.args.pcr)
    (encode_lower (register c.args.banks.now Sha1 c.args.pcr))
    (encode_lower (register c.args.banks.now Sha256 c.args.pcr))))
