-- One more task has its passes.
use Rattle.std.proofs.Common.{◌≡◌, List, [], ◌∷◌, ◌++◌, length, refl, ap, ◌∙◌, arith}
use Rattle.std.specs.Prelude.{map}
use Rattle.world_close.specs.worlds.Tasks.{PassesValue}
use Rattle.world_start.specs.Started.{AreGathered, ColumnsValue, HasTaken}
use Rattle.world_start.proofs.Starting.{ended, moved}

-- no task has its passes at first
pub gathered_none : (all : ColumnsValue) → length all.sems ≡ length all.rows
    → length all.book ≡ length all.rows → length all.rules ≡ length all.rows
    → AreGathered all all []
gathered_none all sems book rules = record {
  rows = refl;
  sems = refl;
  book = refl;
  rules = refl;
  even_sems = sems;
  even_book = book;
  even_rules = rules;
}

-- one more task takes its passes from the columns
pub gathered_more : (all left rest : ColumnsValue) (passes : List PassesValue) (p : PassesValue)
    → HasTaken left rest p → AreGathered all left passes → AreGathered all rest (passes ++ p ∷ [])
gathered_more all left rest passes p took g = record {
  rows = moved (λ (x : PassesValue). x.inodes) all.rows left.rows rest.rows passes p p.inodes
      g.rows took.rows refl;
  sems = moved (λ (x : PassesValue). x.sems) all.sems left.sems rest.sems passes p p.sems g.sems
      took.sems refl;
  book = moved (λ (x : PassesValue). x.book) all.book left.book rest.book passes p p.book g.book
      took.book refl;
  rules = moved (λ (x : PassesValue). x.rules) all.rules left.rules rest.rules passes p p.rules
      g.rules took.rules refl;
  even_sems = let x = ap length took.sems in let y = ap length took.rows in
      let w = g.even_sems in omega arith;
  even_book = let x = ap length took.book in let y = ap length took.rows in
      let w = g.even_book in omega arith;
  even_rules = let x = ap length took.rules in let y = ap length took.rows in
      let w = g.even_rules in omega arith;
}

-- all tasks have their passes once no row remains
pub record AreAll (all : ColumnsValue) (passes : List PassesValue) : Type 0 where
  pub rows : map (λ (p : PassesValue). p.inodes) passes ≡ all.rows
  pub sems : map (λ (p : PassesValue). p.sems) passes ≡ all.sems
  pub book : map (λ (p : PassesValue). p.book) passes ≡ all.book
  pub rules : map (λ (p : PassesValue). p.rules) passes ≡ all.rules

pub gathered_all : (all left : ColumnsValue) (passes : List PassesValue) → length left.rows ≡ 0
    → AreGathered all left passes → AreAll all passes
gathered_all all left passes empty g = record {
  rows = ended (λ (x : PassesValue). x.inodes) all.rows left.rows passes g.rows empty;
  sems = ended (λ (x : PassesValue). x.sems) all.sems left.sems passes g.sems
      (g.even_sems ∙ empty);
  book = ended (λ (x : PassesValue). x.book) all.book left.book passes g.book
      (g.even_book ∙ empty);
  rules = ended (λ (x : PassesValue). x.rules) all.rules left.rules passes g.rules
      (g.even_rules ∙ empty);
}
