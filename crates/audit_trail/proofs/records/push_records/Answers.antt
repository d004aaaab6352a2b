use Rattle.audit_trail.proofs.Printing.{counts_join, texts_join}
use Rattle.audit_trail.proofs.records.push_records.Goals as goal

pub returns-clause-text : goal.returns-clause-text
returns-clause-text c =
    texts_join _ c.push_audit.new.out.items _ _ _ c.in_ok-audits.ensures.text
    c.in_ok-hashes.ensures.text

pub returns-clause-count : goal.returns-clause-count
returns-clause-count c =
    counts_join _ _ _ _ c.in_ok-audits.ensures.count c.in_ok-hashes.ensures.count
