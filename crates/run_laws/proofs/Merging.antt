-- The merged run, from the closes.
use Rattle.std.proofs.Common.{◌≡◌, ℕ, ◌+◌, ◌<◌, cond, List, [], ◌∷◌, ◌++◌, length, sym, ◌∙◌, subst, arith}
use Rattle.std.specs.Prelude.{◌==◌, All, count_by, reverse, sum_by}
use Rattle.std.proofs.lemmas.List.{reverse-append}
use Rattle.std.specs.List.{AllZip}
use Rattle.std.proofs.lemmas.List.Elements.{All-nil, All-cons, All-head, All-tail}
use Rattle.std.proofs.lemmas.List.Sums.{sum_by-append}
use mathlib.Core.List.{IsPrefix}
use Rattle.grow_list.specs.Shown.{Passed}
use Rattle.ima_templates.specs.declared.entry.Entry.{Entry}
use Rattle.inode_events.specs.Listing.{IsListed}
use Rattle.inode_events.specs.Merged.{Journal, PlacesRise}
use Rattle.run_laws.specs.Laws.{BookClosed, ClosedTurned, InodeClosed, MergedFromCloses}
use Rattle.journal_laws.proofs.Prefixed.{listed_prefix}
use Rattle.list_lemmas.proofs.Properties.{all_left}
use Rattle.run_laws.proofs.Counting.{count_none, has_in, sum_times, times_in}
use Rattle.run_laws.proofs.Ordering.{steps_rise}

-- what the pass saw is a prefix of the list
abbrev SeenOf : List Entry → Passed Entry → Type 0
SeenOf list q = IsPrefix q.seen list

-- the list has the journal's entries
abbrev IsListedIn : List Entry → Journal → Type 0
IsListedIn list j = IsListed j.inode list j.events

-- if the passes have seen each journal's entries, the whole list has them
all_listed : (list : List Entry) (js : List Journal) (qs : List (Passed Entry))
    → AllZip InodeClosed js qs → All (SeenOf list) qs → All (IsListedIn list) js
all_listed list [] qs h s = All-nil (IsListedIn list)
all_listed list (j ∷ js) [] h s = absurd h
all_listed list (j ∷ js) (q ∷ qs) h s =
    All-cons (IsListedIn list) j js
    (listed_prefix j.inode q.seen list j.events (All-head (SeenOf list) q qs s) h.0.listed)
    (all_listed list js qs h.1 (All-tail (SeenOf list) q qs s))

-- the places rise along the journal
abbrev RisesAlong : Journal → Type 0
RisesAlong j = PlacesRise j.inode j.events

-- the places rise along each journal
all_rise : (js : List Journal) (qs : List (Passed Entry)) → AllZip InodeClosed js qs
    → All RisesAlong js
all_rise [] qs h = All-nil RisesAlong
all_rise (j ∷ js) [] h = absurd h
all_rise (j ∷ js) (q ∷ qs) h = All-cons RisesAlong j js h.0.rise (all_rise js qs h.1)

-- each place is added by as many events as there are passes that have it
total : (boot : Entry) (list : List Entry) (journals : List Journal)
    (inodes tasks : List (Passed Entry)) → BookClosed boot list (inodes ++ tasks)
    → AllZip InodeClosed journals inodes → All (λ q. q.mine ≡ []) tasks → (k : ℕ) → k < length list
    → sum_by (times_in k) journals ≡ cond (k == 0) 0 1
total boot list journals inodes tasks b z none k l =
    let parts : count_by (has_in k) (inodes ++ tasks) ≡ count_by (has_in k) inodes + count_by
    (has_in k) tasks =
    sum_by-append (λ (x : Passed Entry). cond (has_in k x) 1 0) inodes tasks in
    let rest : count_by (has_in k) tasks ≡ 0 = count_none k tasks none in
    let more : count_by (has_in k) inodes ≡ count_by (has_in k) inodes + count_by (has_in k) tasks =
    omega arith in
    sum_times k journals inodes z ∙ more ∙ sym parts ∙ b.places k l

-- the law for the closes
pub merged : MergedFromCloses
merged boot list journals inodes tasks b z none stepped = record {
  first = b.first;
  listed = all_listed list journals inodes z (all_left (SeenOf list) inodes tasks b.seen);
  once = λ k l. total boot list journals inodes tasks b z none k l;
  along_journals = all_rise journals inodes z;
  along_tasks = steps_rise (length tasks) journals stepped;
  distinct = b.distinct;
}

-- ---- reversing

-- appending a pair keeps two lists related pair by pair
zip_push : {A B : Type 0} (R : A → B → Type 0) (xs : List A) (ys : List B) (x : A) (y : B)
    → AllZip R xs ys → R x y → AllZip R (xs ++ x ∷ []) (ys ++ y ∷ [])
zip_push R [] [] x y z r = (r, tt)
zip_push R [] (b ∷ ys) x y z r = absurd z
zip_push R (a ∷ xs) [] x y z r = absurd z
zip_push R (a ∷ xs) (b ∷ ys) x y z r = (z.0, zip_push R xs ys x y z.1 r)

-- reversing both lists keeps them related pair by pair
zip_reverse : {A B : Type 0} (R : A → B → Type 0) (xs : List A) (ys : List B) → AllZip R xs ys
    → AllZip R (reverse xs) (reverse ys)
zip_reverse R [] [] z = tt
zip_reverse R [] (b ∷ ys) z = absurd z
zip_reverse R (a ∷ xs) [] z = absurd z
zip_reverse R (a ∷ xs) (b ∷ ys) z =
    let turned : AllZip R (reverse xs ++ a ∷ []) (reverse ys ++ b ∷ []) = zip_push R (reverse xs)
    (reverse ys) a b (zip_reverse R xs ys z.1) z.0 in
    let left : AllZip R (reverse (a ∷ xs)) (reverse ys ++ b ∷ []) =
    subst (λ l. AllZip R l (reverse ys ++ b ∷ [])) (sym (reverse-append (a ∷ []) xs)) turned in
    subst (λ l. AllZip R (reverse (a ∷ xs)) l) (sym (reverse-append (b ∷ []) ys)) left

-- the law for journals and passes
pub turned : ClosedTurned
turned journals passes z = zip_reverse InodeClosed journals passes z
