-- One turn of each loop. The invariant joins the text so far with the text that is still to come.
use Rattle.std.proofs.Common.{◌≡◌, ℕ, suc, ◌+◌, List, [], ◌++◌, codes, sym, ap, ◌∙◌, append_assoc}
use Rattle.std.proofs.lemmas.List.{append-nil}
use Rattle.load_gen.specs.Draws.{drawn, next}
use Rattle.load_gen.specs.Script.{file_text, files, group, groups, tasks}

-- one more piece of the text is appended, and the rest is still to come
pub piece_on : (o out new piece rest all : List ℕ) → all ≡ piece ++ rest → out ++ all ≡ o
    → new ≡ out ++ piece → new ++ rest ≡ o
piece_on o out new piece rest all is h k =
    ap (λ l. l ++ rest) k ∙ append_assoc out piece rest ∙ ap (λ l. out ++ l) (sym is) ∙ h

-- at the end nothing is still to come
pub ended : (o out all : List ℕ) → all ≡ [] → out ++ all ≡ o → out ≡ o
ended o out all none h = sym (append-nil out) ∙ ap (λ l. out ++ l) (sym none) ∙ h

-- the text of several files is that of the first and then that of the others
pub files_text : (m n i x : ℕ) → m ≡ suc n
    → (files m i x).text ≡ file_text i (drawn 20000 (next x)) ++ (files n (i + 1) (next x)).text
unfolding files
files_text m n i x e = ap (λ k. (files k i x).text) e

-- the state after several files is that of the others, which start after the first one's draw
pub files_state : (m n i x : ℕ) → m ≡ suc n → (files m i x).state ≡ (files n (i + 1) (next x)).state
unfolding files
files_state m n i x e = ap (λ k. (files k i x).state) e

-- the text of no files is empty
pub no_files_text : (m i x : ℕ) → m ≡ 0 → (files m i x).text ≡ []
unfolding files
no_files_text m i x e = ap (λ k. (files k i x).text) e

-- no files leave the state as it is
pub no_files_state : (m i x : ℕ) → m ≡ 0 → (files m i x).state ≡ x
unfolding files
no_files_state m i x e = ap (λ k. (files k i x).state) e

-- the text of several groups is that of the first and then that of the others
pub groups_text : (m n task x : ℕ) → m ≡ suc n
    → (groups m task x).text ≡ (group task x).text ++ (groups n task (group task x).state).text
unfolding groups
groups_text m n task x e = ap (λ k. (groups k task x).text) e

-- the state after several groups is that of the others, which start after the first one's draws
pub groups_state : (m n task x : ℕ) → m ≡ suc n
    → (groups m task x).state ≡ (groups n task (group task x).state).state
unfolding groups
groups_state m n task x e = ap (λ k. (groups k task x).state) e

-- the text of no groups is empty
pub no_groups_text : (m task x : ℕ) → m ≡ 0 → (groups m task x).text ≡ []
unfolding groups
no_groups_text m task x e = ap (λ k. (groups k task x).text) e

-- no groups leave the state as it is
pub no_groups_state : (m task x : ℕ) → m ≡ 0 → (groups m task x).state ≡ x
unfolding groups
no_groups_state m task x e = ap (λ k. (groups k task x).state) e

-- the text of several tasks is that of the first and then that of the others
pub tasks_text : (m n t x : ℕ) → m ≡ suc n
    → tasks m t x ≡ (codes "task uid=0 euid=0 gid=0 egid=0 admin\n" ++ (groups 64 t x).text)
    ++ tasks n (t + 1) (groups 64 t x).state
unfolding tasks
tasks_text m n t x e = ap (λ k. tasks k t x) e

-- the text of no tasks is empty
pub no_tasks : (m t x : ℕ) → m ≡ 0 → tasks m t x ≡ []
unfolding tasks
no_tasks m t x e = ap (λ k. tasks k t x) e
