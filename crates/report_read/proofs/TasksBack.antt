-- The tasks of a report are read, and its end.
use Rattle.std.proofs.Common.{◌≡◌, ℕ, ◌+◌, ◌<◌, ◌^◌, Bool, true, false, List, [], ◌∷◌, ◌++◌, codes, length, take, Option, Some, if◌then◌else◌, refl, sym, ap, ◌∙◌, subst, append_assoc, arith}
use Rattle.std.specs.List.{AllByRecursion}
use Rattle.std.proofs.lemmas.Bool.{eq-eqb}
use Rattle.std.proofs.lemmas.List.{append-nil}
use Rattle.report_text.specs.Numerals.{numeral}
use Rattle.report_text.specs.Report.{all_task_lines, reply_lines, reply_words, task_lines}
use Rattle.report_text.specs.Words.{Line}
use Rattle.report_text.specs.model.EndedValue.{EndedTaskValue as EndedTask}
use Rattle.report_text.specs.model.events.meta.declared.appraisal.EvmStatus.TheVariants as status
use Rattle.report_text.specs.model.steps.declared.reply.Reply as model
use Rattle.report_text.specs.model.steps.declared.reply.Reply.TheVariants as reply
use Rattle.report_draft.specs.declared.draft.Stage.{Stage}
use Rattle.report_draft.specs.declared.draft.Stage.TheVariants as stage
use Rattle.report_lines.specs.declared.report.Reply.{Reply}
use Rattle.report_draft.specs.Draft.{Draft, begins, begins_with_number, report_closed, task_closed, with_last, with_words}
use Rattle.report_lines.specs.Lines.{reply_of}
use Rattle.report_read.specs.ReadBack.{IsShownReply, IsShownTask, is_ok}
use Rattle.report_lines.specs.Report.{TaskValue}
use Rattle.report_read.proofs.Chains.{AllGood, blocks, chain_whole, fold_one, length-values, length_push, values, values_push}
use Rattle.report_read.proofs.EntriesBack.{digest_back}
use Rattle.report_read.proofs.Fold.{end_of, fold, fold-append, fold_step, line_span, next, step}
use Rattle.report_read.proofs.WordsBack.{cause_is, number_back}

-- ---- from one section into the next

-- the line of a task, and that of the end, are read from u as from c
pub record LeadsTo (u c : Draft) : Type 0 where
  pub leads : (begin : ℕ) (ws : Line) → begins_with_number (take 24 ws) ≡ false
      → begins (codes "pcr") (take 24 ws) ≡ false
      → begins (codes "appended") (take 24 ws) ≡ false
      → begins (codes "inode") (take 24 ws) ≡ false
      → step begin u ws ≡ with_last (take 24 ws) c

registers_lead : (d : Draft) (last : Option ℕ) (begin : ℕ) (ws : Line)
    → begins (codes "pcr") (take 24 ws) ≡ false
    → begins (codes "appended") (take 24 ws) ≡ false
    → begins (codes "inode") (take 24 ws) ≡ false
    → step begin (record d { stage = stage.Registers last }) ws
    ≡ with_last (take 24 ws) (record d { stage = stage.Registers last })
unfolding with_words
registers_lead d last begin ws p a i = rw (p, a, i) refl

inodes_lead : (d : Draft) (begin : ℕ) (ws : Line) → begins (codes "inode") (take 24 ws) ≡ false
    → step begin (record d { stage = stage.Inodes }) ws
    ≡ with_last (take 24 ws) (record d { stage = stage.Inodes })
unfolding with_words
inodes_lead d begin ws i = rw i refl

replies_lead : (d : Draft) (done : Bool) (begin : ℕ) (ws : Line)
    → begins_with_number (take 24 ws) ≡ false
    → step begin (record d { stage = stage.Replies done }) ws
    ≡ with_last (take 24 ws) (task_closed done (record d { stage = stage.Replies done }))
unfolding with_words
replies_lead d done begin ws n = rw n refl

pub from_registers : (d : Draft) (last : Option ℕ)
    → LeadsTo (record d { stage = stage.Registers last })
    (record d { stage = stage.Registers last })
from_registers d last = record {
  leads = λ begin ws n p a i. registers_lead d last begin ws p a i;
}

pub from_inodes : (d : Draft)
    → LeadsTo (record d { stage = stage.Inodes }) (record d { stage = stage.Inodes })
from_inodes d = record { leads = λ begin ws n p a i. inodes_lead d begin ws i }

from_replies : (d : Draft) (done : Bool)
    → LeadsTo (record d { stage = stage.Replies done })
    (task_closed done (record d { stage = stage.Replies done }))
from_replies d done = record { leads = λ begin ws n p a i. replies_lead d done begin ws n }

-- ---- replies

reply_back : (n : ℕ) (r : model.Reply) → n < 2 ^ 32 → IsShownReply r
    → reply_of (take 24 (numeral n ∷ reply_words r)) ≡ Some (n, is_ok r)
unfolding reply_of
reply_back n reply.Done h s = rw (number_back n h) refl
reply_back n (reply.Bytes m digest) h s =
    rw (number_back n h, number_back m s.0, digest_back 32 digest.bytes s.1 s.2) refl
reply_back n reply.NotFound h s = rw (number_back n h) refl
reply_back n reply.BadFile h s = rw (number_back n h) refl
reply_back n reply.TextBusy h s = rw (number_back n h) refl
reply_back n reply.TooBig h s = rw (number_back n h) refl
reply_back n reply.TooLong h s = rw (number_back n h) refl
reply_back n reply.NoData h s = rw (number_back n h) refl
reply_back n reply.Invalid h s = rw (number_back n h) refl
reply_back n reply.EvmName h s = rw (number_back n h) refl
reply_back n reply.NotAdmin h s = rw (number_back n h) refl
reply_back n (reply.Status status.Pass) h s = absurd s
reply_back n (reply.Status status.NoXattrs) h s = rw (number_back n h) refl
reply_back n (reply.Status status.NoLabel) h s = rw (number_back n h) refl
reply_back n (reply.Status status.Fail) h s = rw (number_back n h) refl
reply_back n (reply.Status status.Old) h s = rw (number_back n h) refl
reply_back n (reply.Status status.Unknown) h s = absurd s
reply_back n (reply.Denied cause) h s = rw (number_back n h, cause_is cause) refl

abbrev pub reply_block : ℕ → model.Reply → List Line
reply_block n r = (numeral n ∷ reply_words r) ∷ []

abbrev pub reply_value : ℕ → model.Reply → ℕ → Reply
reply_value n r begin = record {
  line = line_span begin (numeral n ∷ reply_words r);
  ok = is_ok r;
}

reply_step : (n begin : ℕ) (d : Draft) (done : Bool) (r : model.Reply) → n < 2 ^ 32
    → IsShownReply r → n ≡ length d.replies
    → step begin (record d { stage = stage.Replies done }) (numeral n ∷ reply_words r)
    ≡ Some (record d {
      stage = stage.Replies done;
      replies = d.replies ++ reply_value n r begin ∷ [];
    })
unfolding with_words
reply_step n begin d done r h s is =
    rw (number_back n h, reply_back n r h s, eq-eqb n (length d.replies) is) refl

abbrev replied : Draft → Bool → ℕ → List model.Reply → List model.Reply → Draft
replied d t begin done left = record d {
  stage = stage.Replies t;
  replies = values reply_block reply_value begin 0 done;
}

abbrev IsGoodReply : List model.Reply → model.Reply → Type 0
IsGoodReply done r = (length done < 2 ^ 32) × IsShownReply r

reply_each : (d : Draft) (t : Bool) (begin : ℕ) (done : List model.Reply) (r : model.Reply)
    (left : List model.Reply) → IsGoodReply done r
    → fold (end_of begin (blocks reply_block 0 done)) (replied d t begin done (r ∷ left))
    (reply_block (length done) r)
    ≡ Some (replied d t begin (done ++ r ∷ []) left)
reply_each d t begin done r left good =
    let here : ℕ = end_of begin (blocks reply_block 0 done) in
    let so_far : List Reply = values reply_block reply_value begin 0 done in
    fold_one here (replied d t begin done (r ∷ left))
    (record d {
      stage = stage.Replies t;
      replies = so_far ++ reply_value (length done) r here ∷ [];
    })
    (numeral (length done) ∷ reply_words r)
    (reply_step (length done) here (record d { replies = so_far }) t r good.0 good.1
    (sym (length-values reply_block reply_value begin 0 done)))
    ∙ ap
    (λ (rs : List Reply). Some (record d { stage = stage.Replies t; replies = rs }))
    (sym (values_push reply_block reply_value begin done r))

replies_good : (rs done : List model.Reply) → length done + length rs < 2 ^ 32
    → AllByRecursion IsShownReply rs → AllGood reply_block IsGoodReply done rs
replies_good [] done h s = tt
replies_good (r ∷ rs) done h s =
    let size = length_push done r in (
      (omega (arith, h), s.0),
      replies_good rs (done ++ r ∷ []) (omega (arith, h, size)) s.1,
    )

reply_rows : (rs : List model.Reply) (n : ℕ) → blocks reply_block n rs ≡ reply_lines n rs
reply_rows [] n = refl
reply_rows (r ∷ rs) n =
    ap (λ (ls : List Line). (numeral n ∷ reply_words r) ∷ ls) (reply_rows rs (n + 1))

replies_back : (rs : List model.Reply) (begin : ℕ) (d : Draft) (t : Bool) → length rs < 2 ^ 32
    → AllByRecursion IsShownReply rs
    → fold begin (record d { stage = stage.Replies t; replies = [] }) (reply_lines 0 rs)
    ≡ Some (record d {
      stage = stage.Replies t;
      replies = values reply_block reply_value begin 0 rs;
    })
replies_back rs begin d t h s =
    ap (fold begin (record d { stage = stage.Replies t; replies = [] })) (sym (reply_rows rs 0))
    ∙ chain_whole reply_block IsGoodReply begin (replied d t begin) (reply_each d t begin) rs
    (replies_good rs [] (omega (arith, h)) s)

-- ---- tasks

abbrev done_word : Bool → List ℕ
done_word done = if done then codes "done" else codes "unfinished"

abbrev pub task_line : ℕ → Bool → Line
task_line n done = codes "task" ∷ numeral n ∷ done_word done ∷ []

task_step : (begin n : ℕ) (u c : Draft) (done : Bool) → LeadsTo u c → n < 2 ^ 32
    → n ≡ length c.tasks
    → step begin u (task_line n done) ≡ Some (record c { stage = stage.Replies done })
task_step begin n u c true l h is =
    l.leads begin (task_line n true) refl refl refl refl
    ∙ rw (number_back n h, eq-eqb n (length c.tasks) is) refl
task_step begin n u c false l h is =
    l.leads begin (task_line n false) refl refl refl refl
    ∙ rw (number_back n h, eq-eqb n (length c.tasks) is) refl

abbrev pub task_value : ℕ → EndedTask → ℕ → TaskValue
task_value n t begin = record {
  done = t.done;
  replies = values reply_block reply_value (next begin (task_line n t.done)) 0 t.replies;
}

abbrev pub task_values : ℕ → ℕ → List EndedTask → List TaskValue
task_values begin n [] = []
task_values begin n (t ∷ ts) =
    task_value n t begin ∷ task_values (end_of begin (task_lines n t)) (n + 1) ts

-- a task is read
task_back : (t : EndedTask) (begin n : ℕ) (u c : Draft)
    → LeadsTo u (record c { replies = [] }) → n < 2 ^ 32 → n ≡ length c.tasks → IsShownTask t
    → fold begin u (task_lines n t)
    ≡ Some (record c {
      stage = stage.Replies t.done;
      replies = (task_value n t begin).replies;
    })
task_back t begin n u c l h is s =
    fold_step begin u (record c { stage = stage.Replies t.done; replies = [] })
    (task_line n t.done) (reply_lines 0 t.replies)
    (task_step begin n u (record c { replies = [] }) t.done l h is)
    ∙ replies_back t.replies (next begin (task_line n t.done)) c t.done s.0 s.1

-- after some tasks: a draft from which the end is read as from one that has them all
pub record TasksRead (begin n : ℕ) (ts : List EndedTask) (u c : Draft) : Type 0 where
  pub reached : Draft
  pub at : Stage
  pub read : fold begin u (all_task_lines n ts) ≡ Some reached
  pub leads : LeadsTo reached (record c {
    stage = at;
    tasks = c.tasks ++ task_values begin n ts;
    replies = [];
  })

pub tasks_back : (ts : List EndedTask) (begin n : ℕ) (u c : Draft)
    → LeadsTo u (record c { replies = [] }) → n + length ts < 2 ^ 32 → n ≡ length c.tasks
    → AllByRecursion IsShownTask ts → TasksRead begin n ts u c
tasks_back [] begin n u c l h is s = record {
  reached = u;
  at = c.stage;
  read = refl;
  leads = subst (λ (vs : List TaskValue). LeadsTo u (record c { tasks = vs; replies = [] }))
      (sym (append-nil c.tasks)) l;
}
tasks_back (t ∷ ts) begin n u c l h is s =
    let small : n < 2 ^ 32 = omega (arith, h) in
    let v : TaskValue = task_value n t begin in
    let mid : Draft = record c { stage = stage.Replies t.done; replies = v.replies } in
    let closed : Draft = record c {
      stage = stage.Inodes;
      tasks = c.tasks ++ v ∷ [];
      replies = [];
    } in
    let size = length_push c.tasks v in
    let rest : TasksRead (end_of begin (task_lines n t)) (n + 1) ts mid closed
    = tasks_back ts (end_of begin (task_lines n t)) (n + 1) mid closed
    (from_replies (record c { replies = v.replies }) t.done) (omega (arith, h))
    (omega (arith, is, size)) s.1 in
    record {
      reached = rest.reached;
      at = rest.at;
      read = fold-append (task_lines n t) (all_task_lines (n + 1) ts) begin u mid
          (task_back t begin n u c l small is s.0) ∙ rest.read;
      leads = subst
          (λ (vs : List TaskValue). LeadsTo rest.reached
          (record c { stage = rest.at; tasks = vs; replies = [] }))
          (append_assoc c.tasks (v ∷ [])
          (task_values (end_of begin (task_lines n t)) (n + 1) ts)) rest.leads;
    }

-- ---- the end

pub end_back : (begin : ℕ) (u c : Draft) → LeadsTo u c
    → fold begin u ((codes "end" ∷ []) ∷ []) ≡ Some (report_closed c)
end_back begin u c l =
    fold_one begin u (report_closed c) (codes "end" ∷ [])
    (l.leads begin (codes "end" ∷ []) refl refl refl refl)
