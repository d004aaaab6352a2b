use Rattle.std.proofs.Common.{◌≡◌, ◌++◌, ◌∷◌, ◌∙◌, List, ℕ, Result, Ok, Err, ap, map, subst, sym}
use Rattle.std.specs.Prelude.{OnOk, codes}
use Rattle.call_steps.specs.policy.RuleValue.{RuleValue}
use Rattle.policy_text.specs.Spelling.{rule_words}
use Rattle.call_steps.specs.declared.call.Call.{Call}
use Rattle.call_lines.specs.Calls.{call_line}
use Rattle.call_lines.specs.Lines.{words_text}
use Rattle.script_print.proofs.call.push_call.Goals as goal

-- a call without a rule has none to be read, whatever the result
no_rule : {A E : Type 0} (r : Result A E) → OnOk r (Unit {0})
no_rule (Ok x) = tt
no_rule (Err e) = tt

pub returns-in-AddRule-clause-text : goal.returns-in-AddRule-clause-text
returns-in-AddRule-clause-text c =
    subst (λ (w : List (List ℕ)). OnOk c.push_added.result
    (c.push_added.new.out.items ≡ c.args.out.now.items ++ words_text w))
    (ap (λ (r : RuleValue). codes "addrule" ∷ rule_words r) c.get-in-AddRule.ensures
    ∙ sym (ap (λ (x : Call). call_line (map (λ p. p.now) c.args.paths.now) x) c.in-AddRule.is))
    c.push_added.ensures.text

pub returns-in-Open-clause-text : goal.returns-in-Open-clause-text
returns-in-Open-clause-text c = rw c.in-Open.is c.push_open.ensures

pub returns-in-Open-clause-rule : goal.returns-in-Open-clause-rule
returns-in-Open-clause-rule c = rw c.in-Open.is (no_rule c.push_open.result)

pub returns-in-Read-clause-text : goal.returns-in-Read-clause-text
returns-in-Read-clause-text c = rw c.in-Read.is c.push_three.ensures

pub returns-in-Read-clause-rule : goal.returns-in-Read-clause-rule
returns-in-Read-clause-rule c = rw c.in-Read.is (no_rule c.push_three.result)

pub returns-in-Ftruncate-clause-text : goal.returns-in-Ftruncate-clause-text
returns-in-Ftruncate-clause-text c = rw c.in-Ftruncate.is c.push_two.ensures

pub returns-in-Ftruncate-clause-rule : goal.returns-in-Ftruncate-clause-rule
returns-in-Ftruncate-clause-rule c = rw c.in-Ftruncate.is (no_rule c.push_two.result)

pub returns-in-Close-clause-text : goal.returns-in-Close-clause-text
returns-in-Close-clause-text c = rw c.in-Close.is c.push_one.ensures

pub returns-in-Close-clause-rule : goal.returns-in-Close-clause-rule
returns-in-Close-clause-rule c = rw c.in-Close.is (no_rule c.push_one.result)

pub returns-in-Mmap-clause-text : goal.returns-in-Mmap-clause-text
returns-in-Mmap-clause-text c = rw c.in-Mmap.is c.push_mmap.ensures

pub returns-in-Mmap-clause-rule : goal.returns-in-Mmap-clause-rule
returns-in-Mmap-clause-rule c = rw c.in-Mmap.is (no_rule c.push_mmap.result)

pub returns-in-Mread-clause-text : goal.returns-in-Mread-clause-text
returns-in-Mread-clause-text c = rw c.in-Mread.is c.push_three-in-Mread.ensures

pub returns-in-Mread-clause-rule : goal.returns-in-Mread-clause-rule
returns-in-Mread-clause-rule c = rw c.in-Mread.is (no_rule c.push_three-in-Mread.result)

pub returns-in-Munmap-clause-text : goal.returns-in-Munmap-clause-text
returns-in-Munmap-clause-text c = rw c.in-Munmap.is c.push_one-in-Munmap.ensures

pub returns-in-Munmap-clause-rule : goal.returns-in-Munmap-clause-rule
returns-in-Munmap-clause-rule c = rw c.in-Munmap.is (no_rule c.push_one-in-Munmap.result)

pub returns-in-Exec-clause-text : goal.returns-in-Exec-clause-text
returns-in-Exec-clause-text c = rw c.in-Exec.is c.push_exec.ensures

pub returns-in-Exec-clause-rule : goal.returns-in-Exec-clause-rule
returns-in-Exec-clause-rule c = rw c.in-Exec.is (no_rule c.push_exec.result)

pub returns-in-Endexec-clause-text : goal.returns-in-Endexec-clause-text
returns-in-Endexec-clause-text c = rw c.in-Endexec.is c.push_one-in-Endexec.ensures

pub returns-in-Endexec-clause-rule : goal.returns-in-Endexec-clause-rule
returns-in-Endexec-clause-rule c = rw c.in-Endexec.is (no_rule c.push_one-in-Endexec.result)

pub returns-in-SetMeta-clause-text : goal.returns-in-SetMeta-clause-text
returns-in-SetMeta-clause-text c = rw c.in-SetMeta.is c.push_change.ensures

pub returns-in-SetMeta-clause-rule : goal.returns-in-SetMeta-clause-rule
returns-in-SetMeta-clause-rule c = rw c.in-SetMeta.is (no_rule c.push_change.result)

pub returns-in-Post-clause-text : goal.returns-in-Post-clause-text
returns-in-Post-clause-text c = rw c.in-Post.is c.push_one-in-Post.ensures

pub returns-in-Post-clause-rule : goal.returns-in-Post-clause-rule
returns-in-Post-clause-rule c = rw c.in-Post.is (no_rule c.push_one-in-Post.result)

pub returns-in-Wait-clause-text : goal.returns-in-Wait-clause-text
returns-in-Wait-clause-text c = rw c.in-Wait.is c.push_one-in-Wait.ensures

pub returns-in-Wait-clause-rule : goal.returns-in-Wait-clause-rule
returns-in-Wait-clause-rule c = rw c.in-Wait.is (no_rule c.push_one-in-Wait.result)

pub returns-in-Module-clause-text : goal.returns-in-Module-clause-text
returns-in-Module-clause-text c = rw c.in-Module.is c.push_named.ensures

pub returns-in-Module-clause-rule : goal.returns-in-Module-clause-rule
returns-in-Module-clause-rule c = rw c.in-Module.is (no_rule c.push_named.result)

pub returns-in-Firmware-clause-text : goal.returns-in-Firmware-clause-text
returns-in-Firmware-clause-text c = rw c.in-Firmware.is c.push_named-in-Firmware.ensures

pub returns-in-Firmware-clause-rule : goal.returns-in-Firmware-clause-rule
returns-in-Firmware-clause-rule c = rw c.in-Firmware.is (no_rule c.push_named-in-Firmware.result)
