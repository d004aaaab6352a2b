use Rattle.std.proofs.Common.{◌≡◌, ◌<◌, ◌≤◌, ℕ, Bool, true, false, ◌&&◌, List, Option, Some, None, nat_le, length, Ok, Err, ok_or, refl, rules, arith}
use Rattle.std.proofs.lemmas.Bool.Decides.{nat_tests}
use Rattle.text_forms.specs.Options.{◌>>=◌}
use Rattle.script_words.specs.declared.fault.LineCause.TheVariants as cause
use Rattle.script_words.specs.Value.{any_value, within}
use Rattle.script_words.proofs.value.value_of.Goals as goal
use Rattle.script_words.proofs.value.value_of.Goals.{then-len-least-via-then-len-least, then-len-least-via-else-len-least+then-most-len}

-- bytes that are given are the value, if they are as many as it may have
sized : (least most : ℕ) (given : Option (List ℕ)) (bytes : List ℕ)
    → ok_or given cause.BadField ≡ Ok bytes → least ≤ length bytes → length bytes ≤ most
    → ok_or (given >>= within least most) cause.BadField ≡ Ok bytes
sized least most None bytes is low high = cc
sized least most (Some v) bytes is low high =
    let same : v ≡ bytes = cc in
    let enough : nat_le least (length bytes) ≡ true = grind (arith, nat_tests) in
    let few : nat_le (length bytes) most ≡ true = grind (arith, nat_tests) in
    rw (same, enough, few) refl

-- bytes that are given are no value, if they aren't as many as it may have
unsized : (least most : ℕ) (given : Option (List ℕ)) (bytes : List ℕ)
    → ok_or given cause.BadField ≡ Ok bytes
    → (nat_le least (length bytes) && nat_le (length bytes) most) ≡ false
    → ok_or (given >>= within least most) cause.BadField ≡ Err cause.BadField
unsized least most None bytes is bad = cc
unsized least most (Some v) bytes is bad = let same : v ≡ bytes = cc in rw (same, bad) refl

-- fewer bytes than the least aren't within the bounds
too_few : (least most n : ℕ) → n < least → (nat_le least n && nat_le n most) ≡ false
too_few least most n h = let low : nat_le least n ≡ false = grind (arith, nat_tests) in rw low refl

-- a conjunction with a second part that is false is false
and_false : (b : Bool) → (b && false) ≡ false
and_false true = refl
and_false false = refl

-- nor are more bytes than the most
too_many : (least most n : ℕ) → most < n → (nat_le least n && nat_le n most) ≡ false
too_many least most n h =
    let high : nat_le n most ≡ false = grind (arith, nat_tests) in
    rw high (and_false (nat_le least n))

pub returns-then-len-least-clause-value : goal.returns-then-len-least-clause-value
returns-then-len-least-clause-value c =
    unsized c.args.least c.args.most (any_value c.args.most c.args.text.now)
    c.in_ok-bytes.bytes.items c.in_ok-bytes.ensures (elim c.then-len-least.branch [
      | then-len-least-via-then-len-least w ↦
          let n : c.len.result ≡ length c.in_ok-bytes.bytes.items = search rules in
          too_few c.args.least c.args.most _ (rw n at w.if-len-least.true)
      | then-len-least-via-else-len-least+then-most-len w ↦
          let n : w.len-else-len-least.result ≡ length c.in_ok-bytes.bytes.items = search rules in
          too_many c.args.least c.args.most _ (rw n at w.if-most-len.true)
    ])

pub returns-clause-value : goal.returns-clause-value
returns-clause-value c =
    let low : c.len.result ≡ length c.in_ok-bytes.bytes.items = search rules in
    let high : c.len-else-len-least.result ≡ length c.in_ok-bytes.bytes.items = search rules in
    rw c.from_vec.ensures.bytes
    (sized c.args.least c.args.most (any_value c.args.most c.args.text.now)
    c.in_ok-bytes.bytes.items c.in_ok-bytes.ensures (rw low at c.if-len-least.false)
    (rw high at c.if-most-len.false))
