use Rattle.std.proofs.Common.{◌≡◌, ◌∙◌, true, List, length, map, ap, sym, subst, arith}
use Rattle.std.proofs.lemmas.Bool.{true≢false}
use Rattle.std.proofs.lemmas.List.{nil_from_length}
use Rattle.std.proofs.lemmas.Result.{IfOk-weaker, err_from_is_err_and}
use Rattle.task_core.specs.worlds.Runs.{position_of}
use Rattle.task_core.specs.worlds.Tasks.{Tasked}
use Rattle.order_sights.specs.Pairs.{ArePositionsPaired, are_within}
use Rattle.order_sights.specs.declared.sight.Sight.{Sight}
use Rattle.order_sights.proofs.Meeting.{alike}
use Rattle.order_sights.proofs.sight.are_alike.Goals as goal

pub returns : goal.returns
returns c =
    let lists = c.same_lists.ensures c.if-not-same_lists.false in
    let ok = c.are_pairs.ensures c.if-not-are_pairs.false in
    let pairs = c.as_slice-pairs.result.now in
    let len = c.len-inodes.ensures in
    let view = ap (λ (s : Sight). length s.ended.inodes) c.a.view_is in
    let count : c.len-inodes.result ≡ length c.args.a.now.ended.inodes =
    omega (arith, len, view) in
    IfOk-weaker c.same_inodes.result _ _
    (λ same inodes t scene m n one two.
    alike scene m n c.args.a.now c.args.b.now one two pairs ok.apart
    (subst (λ n. are_within n pairs ≡ true) count ok.within)
    lists.there lists.back (nil_from_length c.args.a.now.ended.rules lists.counts.none)
    (nil_from_length c.args.b.now.ended.rules lists.counts.none2)
    (subst (λ (us : List Tasked). ArePositionsPaired pairs
    (map position_of c.args.a.now.tasks.items) (map position_of us)) c.as_slice-4.ensures.value
    (subst (λ (ts : List Tasked). ArePositionsPaired pairs (map position_of ts)
    (map position_of c.as_slice-4.result.now))
    (c.as_slice-3.ensures.value ∙ ap (λ (s : Sight). s.tasks.items) c.a.view_is)
    (c.same_tasks.ensures c.if-not-same_tasks.false)))
    (inodes t))
    c.same_inodes.ensures

pub returns-in_err-pairs : goal.returns-in_err-pairs
returns-in_err-pairs c =
    let p = err_from_is_err_and c.from_residual.result c.from_residual.ensures.1 in
    rw (p.1) tt

pub returns-then-not-same_lists : goal.returns-then-not-same_lists
returns-then-not-same_lists c = λ t. absurd (true≢false (sym t))

pub returns-then-not-are_pairs : goal.returns-then-not-are_pairs
returns-then-not-are_pairs c = λ t. absurd (true≢false (sym t))

pub returns-then-not-same_tasks : goal.returns-then-not-same_tasks
returns-then-not-same_tasks c = λ t. absurd (true≢false (sym t))
