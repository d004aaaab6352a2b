-- The printed text of a set of algorithms is read back as that set, by cases over all sets.
use Rattle.std.proofs.Common.{◌≡◌, Bool, true, false, refl}
use Rattle.std.proofs.lemmas.Bool.{false≢true}
use Rattle.hash_algos.specs.declared.algo_set.AlgoSet.{AlgoSet}
use Rattle.policy_rules.specs.RuleValue.{has_algos}
use Rattle.policy_rules.specs.ValueTexts.{algos_text}
use Rattle.policy_rules.specs.Values.{algos_of}
use Rattle.policy_text.proofs.ValuesAgain.{Again}

abbrev set : Bool → Bool → Bool → Bool → Bool → Bool → AlgoSet
set a b c d e f = record { md5 = a; sha1 = b; sha256 = c; sha384 = d; sha512 = e; sha224 = f }

sets_again : (a b c d e f : Bool) → has_algos (set a b c d e f) ≡ true
    → Again algos_of (algos_text (set a b c d e f)) (set a b c d e f)
sets_again true true true true true true h = (refl, refl)
sets_again true true true true true false h = (refl, refl)
sets_again true true true true false true h = (refl, refl)
sets_again true true true true false false h = (refl, refl)
sets_again true true true false true true h = (refl, refl)
sets_again true true true false true false h = (refl, refl)
sets_again true true true false false true h = (refl, refl)
sets_again true true true false false false h = (refl, refl)
sets_again true true false true true true h = (refl, refl)
sets_again true true false true true false h = (refl, refl)
sets_again true true false true false true h = (refl, refl)
sets_again true true false true false false h = (refl, refl)
sets_again true true false false true true h = (refl, refl)
sets_again true true false false true false h = (refl, refl)
sets_again true true false false false true h = (refl, refl)
sets_again true true false false false false h = (refl, refl)
sets_again true false true true true true h = (refl, refl)
sets_again true false true true true false h = (refl, refl)
sets_again true false true true false true h = (refl, refl)
sets_again true false true true false false h = (refl, refl)
sets_again true false true false true true h = (refl, refl)
sets_again true false true false true false h = (refl, refl)
sets_again true false true false false true h = (refl, refl)
sets_again true false true false false false h = (refl, refl)
sets_again true false false true true true h = (refl, refl)
sets_again true false false true true false h = (refl, refl)
sets_again true false false true false true h = (refl, refl)
sets_again true false false true false false h = (refl, refl)
sets_again true false false false true true h = (refl, refl)
sets_again true false false false true false h = (refl, refl)
sets_again true false false false false true h = (refl, refl)
sets_again true false false false false false h = (refl, refl)
sets_again false true true true true true h = (refl, refl)
sets_again false true true true true false h = (refl, refl)
sets_again false true true true false true h = (refl, refl)
sets_again false true true true false false h = (refl, refl)
sets_again false true true false true true h = (refl, refl)
sets_again false true true false true false h = (refl, refl)
sets_again false true true false false true h = (refl, refl)
sets_again false true true false false false h = (refl, refl)
sets_again false true false true true true h = (refl, refl)
sets_again false true false true true false h = (refl, refl)
sets_again false true false true false true h = (refl, refl)
sets_again false true false true false false h = (refl, refl)
sets_again false true false false true true h = (refl, refl)
sets_again false true false false true false h = (refl, refl)
sets_again false true false false false true h = (refl, refl)
sets_again false true false false false false h = (refl, refl)
sets_again false false true true true true h = (refl, refl)
sets_again false false true true true false h = (refl, refl)
sets_again false false true true false true h = (refl, refl)
sets_again false false true true false false h = (refl, refl)
sets_again false false true false true true h = (refl, refl)
sets_again false false true false true false h = (refl, refl)
sets_again false false true false false true h = (refl, refl)
sets_again false false true false false false h = (refl, refl)
sets_again false false false true true true h = (refl, refl)
sets_again false false false true true false h = (refl, refl)
sets_again false false false true false true h = (refl, refl)
sets_again false false false true false false h = (refl, refl)
sets_again false false false false true true h = (refl, refl)
sets_again false false false false true false h = (refl, refl)
sets_again false false false false false true h = (refl, refl)
sets_again false false false false false false h = absurd (false≢true h)

pub algos_again : (s : AlgoSet) → has_algos s ≡ true → Again algos_of (algos_text s) s
algos_again s h = sets_again s.md5 s.sha1 s.sha256 s.sha384 s.sha512 s.sha224 h
