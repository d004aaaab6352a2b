-- What a caller has seen of a journal, and the events beyond that.
use Rattle.std.proofs.Common.{◌≡◌, ◌≢◌, ◌<◌, ◌≤◌, ℕ, Bool, true, false, cond, List, [], ◌∷◌, ◌++◌, length, map, Some, refl, sym, ◌∙◌, ap, subst, arith, length-append}
use Rattle.std.specs.Prelude.{◌==◌, All, reverse}
use Rattle.std.proofs.lemmas.Bool.{cond-false, eq-eqb, ne_eqb}
use Rattle.std.proofs.lemmas.List.{reverse-append, length-reverse}
use Rattle.std.proofs.lemmas.List.Elements.{All-head, All-nil, All-push, All-tail}
use Rattle.grow_list.specs.Entries.{entries_of}
use Rattle.inode_events.specs.Callers.{caller_of}
use Rattle.inode_events.specs.Inode.{Inode}
use Rattle.inode_events.specs.Integrity.{collecting}
use Rattle.inode_events.specs.Legal.{EachFollows}
use Rattle.inode_events.specs.Stage.{Stage}
use Rattle.inode_events.specs.Stage.{Gone, Counted, Asked, Collecting, Collected, Settled, CloseCollecting, CloseCollected}
use Rattle.inode_events.specs.NewestFirst.{newest_first}
use Rattle.inode_events.specs.Stage.{is_collecting, is_gone, stage_in}
use Rattle.inode_events.specs.declared.told.Event.{Event}
use Rattle.journal_laws.specs.Own.{IsOwned, NoneOf, counter, own_past}
use Rattle.journal_laws.specs.OwnLaws.{CollectionIsSeen, NoneBeyond}
use Rattle.journal_laws.proofs.Bridge.{own_bridge}
use Rattle.journal_laws.proofs.Owning.{file_own, stage_own}
use Rattle.journal_laws.proofs.Staying.{collection_own}

-- ---- the events beyond

-- if all own entries are below a place, no event from there on is the caller's
none_later : (n limit : ℕ) (later p : List Event) → limit ≤ length p
    → All (λ x. x.0 < limit) (own_past n (later ++ p)) → NoneOf n later
none_later n limit [] p l h = tt
none_later n limit (e ∷ later) p l h =
    at (none_later n limit later p l) (n == caller_of e) refl h where
      at : (All (λ x. x.0 < limit) (own_past n (later ++ p)) → NoneOf n later) → (b : Bool)
          → (n == caller_of e) ≡ b
          → All (λ x. x.0 < limit) (cond b ((length (later ++ p), e) ∷ own_past n (later ++ p))
          (own_past n (later ++ p)))
          → (caller_of e ≢ n) × NoneOf n later
      at ih true q g =
          let b : length (later ++ p) < limit = All-head (λ (x : ℕ × Event). x.0 < limit)
          (length (later ++ p), e) (own_past n (later ++ p)) g in
          absurd (omega (arith, length-append later p))
      at ih false q g =
          ((λ s. let y : (n == caller_of e) ≡ true = eq-eqb n (caller_of e) (sym s) in cc), ih g)

-- a property of all entries holds in the reverse order too
all_reverse : (P : ℕ × Event → Type 0) (xs : List (ℕ × Event)) → All P xs → All P (reverse xs)
all_reverse P [] h = All-nil P
all_reverse P (x ∷ xs) h =
    subst (All P) (sym (reverse-append (x ∷ []) xs))
    (All-push P (reverse xs) x (all_reverse P xs (All-tail P x xs h)) (All-head P x xs h))

-- the rest of a journal, after what the caller saw, has no event of the caller
pub beyond : NoneBeyond
unfolding newest_first
beyond n seen list a below =
    let split : newest_first list ≡ newest_first a.0 ++ newest_first seen = ap reverse (sym a.1)
    ∙ reverse-append seen a.0 in
    let own : All (λ x. x.0 < length seen) (own_past n (newest_first list)) =
    subst (All (λ (x : ℕ × Event). x.0 < length seen)) (sym (own_bridge n list))
    (all_reverse (λ (x : ℕ × Event). x.0 < length seen) (entries_of n (map caller_of list) list)
    below) in (
      newest_first a.0,
      split,
      none_later n (length seen) (newest_first a.0) (newest_first seen)
          (let e : length (reverse seen) ≡ length seen = length-reverse seen in omega arith)
          (subst (λ (l : List Event). All (λ x. x.0 < length seen) (own_past n l)) split own),
    )

-- ---- the collection

-- others' events add no own entry
own_none : (n : ℕ) (later p : List Event) → NoneOf n later → own_past n (later ++ p) ≡ own_past n p
own_none n [] p none = refl
own_none n (e ∷ later) p none =
    cond-false (n == caller_of e) _ _ (ne_eqb n (caller_of e) (λ s. none.0 (sym s)))
    ∙ own_none n later p none.1

-- an earlier part of an owned journal is owned
owned_at : (later p : List Event) → IsOwned (later ++ p) → IsOwned p
owned_at [] p o = o
owned_at (e ∷ later) p o = owned_at later p o.1

-- a file that is being collected isn't gone
alive_of : (l : Stage) → is_collecting l ≡ true → is_gone l ≡ false
alive_of Gone h = cc
alive_of Counted h = refl
alive_of Asked h = refl
alive_of Collecting h = refl
alive_of Collected h = refl
alive_of Settled h = refl
alive_of CloseCollecting h = refl
alive_of CloseCollected h = refl

-- events of others leave the collection of an own file
seen_at : (i : Inode) (n f : ℕ) (later p : List Event) → EachFollows i (later ++ p)
    → IsOwned (later ++ p) → NoneOf n later
    → is_collecting (stage_in i f (own_past n (later ++ p))) ≡ true
    → collecting i (later ++ p) ≡ collecting i p
seen_at i n f later p legal owned none busy =
    let o : IsOwned p = owned_at later p owned in
    let b : is_collecting (stage_in i f (own_past n p)) ≡ true =
    ap (λ (xs : List (ℕ × Event)). is_collecting (stage_in i f xs))
    (sym (own_none n later p none)) ∙ busy in
    let c : counter f p ≡ Some n = file_own i n f p o (alive_of _ b) in
    (collection_own i n f later p legal owned none c (ap is_collecting (stage_own i n f p o c)
    ∙ b)).1

-- the collection is as last seen, since the events beyond are by others
pub collection_seen : CollectionIsSeen
collection_seen i n f seen list legal owned a below busy =
    let r = beyond n seen list a below in
    ap (collecting i) r.1 ∙ seen_at i n f r.0 (newest_first seen) (subst (EachFollows i) r.1 legal)
    (subst IsOwned r.1 owned) r.2
    (subst (λ (l : List Event). is_collecting (stage_in i f (own_past n l)) ≡ true) r.1 busy)
