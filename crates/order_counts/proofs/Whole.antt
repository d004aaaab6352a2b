-- Counting step by step gives the rows.
use Rattle.std.proofs.Common.{◌≡◌, ◌⊎◌, ℕ, suc, ◌+◌, ◌-◌, ◌<◌, Bool, true, false, ◌||◌, ◌==◌, Contains, List, [], ◌∷◌, ◌++◌, append_assoc, append-nil, length, length-append, Option, Some, None, option_map, slice_get, slice_index_or, refl, ap, sym, subst, ◌∙◌, arith, inl, inr, eqb-true, eq-eqb, zero-add}
use Rattle.std.specs.List.{list_all}
use Rattle.std.proofs.lemmas.Bool.{true≢false, and_from, and_parts, cases_order, or_cases}
use Rattle.std.proofs.lemmas.List.Elements.{Contains-get_or}
use Rattle.std.proofs.lemmas.Option.{none-some, same_Some}
use Rattle.order_counts.specs.Layers.{AddsIf, AllAdvance, AreAlike, BothOrNone, EndsIf, GoesOn, IsAdded, IsWay, Spreads, StandsAt, StandsFor, root, ways, with_turn}
use Rattle.order_counts.specs.Orders.{comes_before, is_among, is_order, led, rests}
use Rattle.order_counts.specs.Rows.{AreRows, Counted}
use Rattle.order_counts.proofs.Before.{not_after, not_after_longer, not_itself}
use Rattle.order_counts.proofs.Spread.{SameOutcome, SameState, all_add, first_in, in_cases, in_none, later_in, led-more, stands_after}
use Rattle.order_counts.proofs.Turns.{from_some, get_at, order_from, order_rest}
use Rattle.order_counts.proofs.Ways.{rests-alike, ways_are_orders}

-- turns of which one more is named
named-more : (tasks ns : List ℕ) (n : ℕ) → list_all (λ k. is_among k tasks) ns ≡ true
    → is_among n tasks ≡ true → list_all (λ k. is_among k tasks) (ns ++ n ∷ []) ≡ true
named-more tasks [] n h is = and_from (is_among n tasks) true is refl
named-more tasks (k ∷ ks) n h is =
    let both = and_parts (is_among k tasks) (list_all (λ j. is_among j tasks) ks) h in
    and_from (is_among k tasks) (list_all (λ j. is_among j tasks) (ks ++ n ∷ [])) both.0
    (named-more tasks ks n both.1 is)

-- a task is among those of a list that begins with it
among_first : (n : ℕ) (ns : List ℕ) → is_among n (n ∷ ns) ≡ true
among_first n ns = ap (λ b. b || is_among n ns) (eq-eqb n n refl)

module _ {M O : Type 0} (go : M → ℕ → Option M) (tasks : List ℕ) (start : M) (outcome : M → O)
    (Alike : M → M → Type 0) (alike : AreAlike go tasks start outcome Alike) where
  abbrev State : List ℕ → List ℕ → Type 0
  State a b = SameState go tasks start outcome Alike alike a b

  abbrev Result : List ℕ → List ℕ → Type 0
  Result a b = SameOutcome go tasks start outcome Alike alike a b

  -- ---- being the same

  state-along : (a b c : List ℕ) → State a b → State b c → State a c
  state-along a b c h k =
      let y : h.1.0 ≡ k.0 = same_Some h.1.0 k.0 (sym h.1.1.1.0 ∙ k.1.1.0) in (
        h.0,
        (
          k.1.0,
          (
            h.1.1.0,
            (
              k.1.1.1.0,
              alike.along h.0 h.1.0 k.1.0 h.1.1.1.1
                  (subst (λ (x : M). Alike x k.1.0) (sym y) k.1.1.1.1),
            ),
          ),
        ),
      )

  result-along : (a b c : List ℕ) → Result a b → Result b c → Result a c
  result-along a b c h k = h ∙ k

  -- ---- what one way adds

  adds_keep : (o : Option M) (old new : List Counted) (c : Counted) → AddsIf State o old c new
      → (turns : List ℕ) → StandsFor State old turns → StandsFor State new turns
  adds_keep None old new c adds turns s =
      subst (λ (cs : List Counted). StandsFor State cs turns) (sym adds) s
  adds_keep (Some m) old new c adds turns s = stands_after State state-along old new c adds turns s

  spread_keeps : (m : M) (c : Counted) (ns : List ℕ) (old new : List Counted)
      → Spreads go Alike start m c ns old new
      → (turns : List ℕ) → StandsFor State old turns → StandsFor State new turns
  spread_keeps m c [] old new h turns s =
      subst (λ (cs : List Counted). StandsFor State cs turns) (sym h) s
  spread_keeps m c (n ∷ ns) old new h turns s =
      spread_keeps m c ns h.0 new h.1.1 turns
      (adds_keep (go m n) old h.0 (with_turn c n) h.1.0 turns s)

  ends_keep : (b : Bool) (old new : List Counted) (c : Counted) → EndsIf b Result old c new
      → (turns : List ℕ) → StandsFor Result old turns → StandsFor Result new turns
  ends_keep false old new c h turns s =
      subst (λ (cs : List Counted). StandsFor Result cs turns) (sym h) s
  ends_keep true old new c h turns s = stands_after Result result-along old new c h turns s

  -- what a turn adds stands for the way with that turn
  adds_has : (o : Option M) (old new : List Counted) (c : Counted) → AddsIf State o old c new
      → (m : M) → o ≡ Some m → StandsFor State new c.order
  adds_has None old new c adds m is = absurd (none-some m is)
  adds_has (Some x) old new c adds m is = adds.added

  spread_has : (m : M) (c : Counted) (ns : List ℕ) (old new : List Counted)
      → Spreads go Alike start m c ns old new → (n : ℕ) (next : M) → is_among n ns ≡ true
      → go m n ≡ Some next → StandsFor State new (c.order ++ n ∷ [])
  spread_has m c [] old new h n next among is = absurd (true≢false (sym among))
  spread_has m c (k ∷ ks) old new h n next among is =
      by (or_cases (k == n) (is_among n ks) among)
      (λ later. spread_has m c ks h.0 new h.1.1 n next later is)
    where
      by : ((k == n) ≡ true) ⊎ (is_among n ks ≡ true)
          → (is_among n ks ≡ true → StandsFor State new (c.order ++ n ∷ []))
          → StandsFor State new (c.order ++ n ∷ [])
      by (inl same) rest =
          let e : k ≡ n = eqb-true k n same in
          spread_keeps m c ks h.0 new h.1.1 (c.order ++ n ∷ [])
          (subst (λ (j : ℕ). StandsFor State h.0 (c.order ++ j ∷ [])) e
          (adds_has (go m k) old h.0 (with_turn c k) h.1.0 next (ap (go m) e ∙ is)))
      by (inr later) rest = rest later

  -- ---- what a layer adds

  all_keep_ways : (layer next rows next' rows' : List Counted)
      → AllAdvance go tasks start outcome Alike layer next rows next' rows'
      → (turns : List ℕ) → StandsFor State next turns → StandsFor State next' turns
  all_keep_ways [] next rows next' rows' h turns s =
      subst (λ (cs : List Counted). StandsFor State cs turns) (sym h.0) s
  all_keep_ways (c ∷ cs) next rows next' rows' h turns s =
      let a = h.1.1.0 in
      all_keep_ways cs h.0 h.1.0 next' rows' h.1.1.1 turns
      (spread_keeps a.at c tasks next h.0 a.spreads turns s)

  all_keep_rows : (layer next rows next' rows' : List Counted)
      → AllAdvance go tasks start outcome Alike layer next rows next' rows'
      → (turns : List ℕ) → StandsFor Result rows turns → StandsFor Result rows' turns
  all_keep_rows [] next rows next' rows' h turns s =
      subst (λ (cs : List Counted). StandsFor Result cs turns) (sym h.1) s
  all_keep_rows (c ∷ cs) next rows next' rows' h turns s =
      let a = h.1.1.0 in
      all_keep_rows cs h.0 h.1.0 next' rows' h.1.1.1 turns
      (ends_keep (rests go tasks a.at) rows h.1.0 c a.ends turns s)

  -- a way of the layer with one turn more is stood for in the next layer
  all_have_way : (layer next rows next' rows' : List Counted)
      → AllAdvance go tasks start outcome Alike layer next rows next' rows'
      → (c : Counted) → Contains layer c → (m next_m : M) (n : ℕ)
      → led go (Some start) c.order ≡ Some m → is_among n tasks ≡ true → go m n ≡ Some next_m
      → StandsFor State next' (c.order ++ n ∷ [])
  all_have_way [] next rows next' rows' h c inside m next_m n leads among is =
      absurd (in_none c inside)
  all_have_way (d ∷ ds) next rows next' rows' h c inside m next_m n leads among is =
      by (in_cases d ds c inside)
      (λ later. all_have_way ds h.0 h.1.0 next' rows' h.1.1.1 c later m next_m n leads among is)
    where
      by : (d ≡ c) ⊎ Contains ds c
          → (Contains ds c → StandsFor State next' (c.order ++ n ∷ []))
          → StandsFor State next' (c.order ++ n ∷ [])
      by (inl e) rest =
          let a = h.1.1.0 in
          let same : a.at ≡ m = same_Some a.at m
          (sym a.leads ∙ ap (λ (x : Counted). led go (Some start) x.order) e ∙ leads) in
          all_keep_ways ds h.0 h.1.0 next' rows' h.1.1.1 (c.order ++ n ∷ [])
          (subst (λ (x : Counted). StandsFor State h.0 (x.order ++ n ∷ [])) e
          (spread_has a.at d tasks next h.0 a.spreads n next_m among
          (ap (λ (x : M). go x n) same ∙ is)))
      by (inr later) rest = rest later

  -- a row is added for a way that is an order
  ends_has : (b : Bool) (old new : List Counted) (c : Counted) → EndsIf b Result old c new
      → b ≡ true → StandsFor Result new c.order
  ends_has false old new c h is = absurd (true≢false (sym is))
  ends_has true old new c h is = h.added

  all_have_row : (layer next rows next' rows' : List Counted)
      → AllAdvance go tasks start outcome Alike layer next rows next' rows'
      → (c : Counted) → Contains layer c → (m : M) → led go (Some start) c.order ≡ Some m
      → rests go tasks m ≡ true → StandsFor Result rows' c.order
  all_have_row [] next rows next' rows' h c inside m leads rest = absurd (in_none c inside)
  all_have_row (d ∷ ds) next rows next' rows' h c inside m leads rest =
      by (in_cases d ds c inside)
      (λ later. all_have_row ds h.0 h.1.0 next' rows' h.1.1.1 c later m leads rest)
    where
      by : (d ≡ c) ⊎ Contains ds c → (Contains ds c → StandsFor Result rows' c.order)
          → StandsFor Result rows' c.order
      by (inl e) others =
          let a = h.1.1.0 in
          let same : a.at ≡ m = same_Some a.at m
          (sym a.leads ∙ ap (λ (x : Counted). led go (Some start) x.order) e ∙ leads) in
          all_keep_rows ds h.0 h.1.0 next' rows' h.1.1.1 c.order
          (subst (λ (x : Counted). StandsFor Result h.1.0 x.order) e
          (ends_has (rests go tasks a.at) rows h.1.0 d a.ends
          (ap (rests go tasks) same ∙ rest)))
      by (inr later) others = others later

  -- ---- what is in the next layer and in the rows

  -- what holds of the earlier ways and of the added one holds of all
  added_all : (Same : List ℕ → List ℕ → Type 0) (P : List ℕ → Type 0) (old new : List Counted)
      (c : Counted) → IsAdded Same old c new
      → ((d : Counted) → Contains old d → P d.order) → P c.order
      → (d : Counted) → Contains new d → P d.order
  added_all Same P old new c h olds one d inside = by (h.no_other d inside)
    where
      by : (d.order ≡ c.order) ⊎ ((e : Counted) × (Contains old e × (d.order ≡ e.order)))
          → P d.order
      by (inl is) = subst P (sym is) one
      by (inr x) = subst P (sym x.1.1) (olds x.0 x.1.0)

  adds_all : (P : List ℕ → Type 0) (o : Option M) (old new : List Counted) (c : Counted)
      → AddsIf State o old c new → ((d : Counted) → Contains old d → P d.order)
      → ((x : M) → o ≡ Some x → P c.order) → (d : Counted) → Contains new d → P d.order
  adds_all P None old new c h olds one d inside =
      olds d (subst (λ (cs : List Counted). Contains cs d) h inside)
  adds_all P (Some x) old new c h olds one d inside =
      added_all State P old new c h olds (one x refl) d inside

  -- if one of two holds, so does their disjunction
  or_later : (a b : Bool) → b ≡ true → (a || b) ≡ true
  or_later true b h = refl
  or_later false b h = h

  spread_all : (P : List ℕ → Type 0) (m : M) (c : Counted) (ns : List ℕ) (old new : List Counted)
      → Spreads go Alike start m c ns old new → ((d : Counted) → Contains old d → P d.order)
      → ((n : ℕ) (x : M) → is_among n ns ≡ true → go m n ≡ Some x → P (c.order ++ n ∷ []))
      → (d : Counted) → Contains new d → P d.order
  spread_all P m c [] old new h olds one d inside =
      olds d (subst (λ (cs : List Counted). Contains cs d) h inside)
  spread_all P m c (n ∷ ns) old new h olds one d inside =
      spread_all P m c ns h.0 new h.1.1
      (adds_all P (go m n) old h.0 (with_turn c n) h.1.0 olds
      (λ x is. one n x (among_first n ns) is))
      (λ k x among is. one k x (or_later (n == k) (is_among k ns) among) is) d inside

  -- the ways of the next layer have one turn more
  way_more : (k : ℕ) (c : Counted) → IsWay go tasks start k c.order → (m : M)
      → led go (Some start) c.order ≡ Some m → (n : ℕ) (x : M) → is_among n tasks ≡ true
      → go m n ≡ Some x → IsWay go tasks start (suc k) (c.order ++ n ∷ [])
  way_more k c way m leads n x among is = record {
    long =
        let long = way.long in
        let more = length-append c.order (n ∷ []) in
        omega (arith, long, more);
    at = x;
    leads = led-more go (Some start) c.order n m leads ∙ is;
    named = named-more tasks c.order n way.named among;
  }

  all_ways : (k : ℕ) (layer next rows next' rows' : List Counted)
      → AllAdvance go tasks start outcome Alike layer next rows next' rows'
      → ((c : Counted) → Contains layer c → IsWay go tasks start k c.order)
      → ((d : Counted) → Contains next d → IsWay go tasks start (suc k) d.order)
      → (d : Counted) → Contains next' d → IsWay go tasks start (suc k) d.order
  all_ways k [] next rows next' rows' h ways_in olds d inside =
      olds d (subst (λ (cs : List Counted). Contains cs d) h.0 inside)
  all_ways k (c ∷ cs) next rows next' rows' h ways_in olds d inside =
      let a = h.1.1.0 in
      let way = ways_in c (first_in c cs) in
      all_ways k cs h.0 h.1.0 next' rows' h.1.1.1 (λ x inside. ways_in x (later_in c cs x inside))
      (spread_all (IsWay go tasks start (suc k)) a.at c tasks next h.0 a.spreads olds
      (way_more k c way a.at a.leads)) d inside

  -- each row is an order
  ends_all : (b : Bool) (old new : List Counted) (c : Counted) → EndsIf b Result old c new
      → ((d : Counted) → Contains old d → is_order go tasks (Some start) d.order ≡ true)
      → (b ≡ true → is_order go tasks (Some start) c.order ≡ true)
      → (d : Counted) → Contains new d → is_order go tasks (Some start) d.order ≡ true
  ends_all false old new c h olds one d inside =
      olds d (subst (λ (cs : List Counted). Contains cs d) h inside)
  ends_all true old new c h olds one d inside =
      added_all Result (λ ns. is_order go tasks (Some start) ns ≡ true) old new c h olds (one refl)
      d inside

  all_orders : (k : ℕ) (layer next rows next' rows' : List Counted)
      → AllAdvance go tasks start outcome Alike layer next rows next' rows'
      → ((c : Counted) → Contains layer c → IsWay go tasks start k c.order)
      → ((d : Counted) → Contains rows d → is_order go tasks (Some start) d.order ≡ true)
      → (d : Counted) → Contains rows' d → is_order go tasks (Some start) d.order ≡ true
  all_orders k [] next rows next' rows' h ways_in olds d inside =
      olds d (subst (λ (cs : List Counted). Contains cs d) h.1 inside)
  all_orders k (c ∷ cs) next rows next' rows' h ways_in olds d inside =
      let a = h.1.1.0 in
      let way = ways_in c (first_in c cs) in
      all_orders k cs h.0 h.1.0 next' rows' h.1.1.1
      (λ x inside. ways_in x (later_in c cs x inside))
      (ends_all (rests go tasks a.at) rows h.1.0 c a.ends olds
      (order_from go tasks c.order (Some start) a.at a.leads way.named)) d inside

  -- ---- the step

  -- if the second of two alike turns leads on, so does the first
  both_some : (o p : Option M) → BothOrNone Alike o p → (y : M) → p ≡ Some y
      → (x : M) × ((o ≡ Some x) × Alike x y)
  both_some None None h y is = absurd (none-some y is)
  both_some None (Some b) h y is = absurd h
  both_some (Some a) None h y is = absurd h
  both_some (Some a) (Some b) h y is =
      (a, (refl, subst (λ (z : M). Alike a z) (same_Some b y is) h))

  module _ (k : ℕ) (layer rows next' rows' : List Counted)
      (s : StandsAt go tasks start outcome Alike k layer rows)
      (h : AllAdvance go tasks start outcome Alike layer [] rows next' rows') where
    -- an order whose first turns are a way of the layer is in the rows
    ends_here : (begin : List ℕ) → StandsFor State layer begin
        → is_order go tasks (Some start) begin ≡ true → StandsFor Result rows' begin
    ends_here begin f is =
        let x = f.same.0 in
        let y = f.same.1.0 in
        let xy = f.same.1.1.1.1 in
        let whole : is_order go tasks (Some start) (begin ++ []) ≡ true
        = ap (is_order go tasks (Some start)) (append-nil begin) ∙ is in
        let rest_y : rests go tasks y ≡ true
        = sym (ap (λ (o : Option M). is_order go tasks o []) f.same.1.1.1.0)
        ∙ order_rest go tasks begin [] (Some start) whole in
        let rest_x : rests go tasks x ≡ true
        = rests-alike go tasks start outcome Alike alike tasks x y xy ∙ rest_y in
        let row = all_have_row layer [] rows next' rows' h f.it f.inside x f.same.1.1.0 rest_x in
        record {
          it = row.it;
          inside = row.inside;
          same = row.same ∙ ap (option_map outcome) f.same.1.1.0
              ∙ ap Some (alike.ends x y xy rest_x)
              ∙ sym (ap (option_map outcome) f.same.1.1.1.0);
          first = not_after row.it.order f.it.order begin row.first f.first;
        }

    -- any other order goes on from the next layer
    goes_on : (begin rest : List ℕ) (n : ℕ) → length begin ≡ k → StandsFor State layer begin
        → is_order go tasks (Some start) (begin ++ n ∷ rest) ≡ true
        → GoesOn go Alike start (suc k) next' (begin ++ n ∷ rest)
    goes_on begin rest n long f is =
        let x = f.same.0 in
        let y = f.same.1.0 in
        let there : is_order go tasks (Some y) (n ∷ rest) ≡ true
        = sym (ap (λ (o : Option M). is_order go tasks o (n ∷ rest)) f.same.1.1.1.0)
        ∙ order_rest go tasks begin (n ∷ rest) (Some start) is in
        let both = and_parts (is_among n tasks) (is_order go tasks (go y n) rest) there in
        let y' = from_some go tasks (go y n) rest both.1 in
        let x' = both_some (go x n) (go y n) (alike.moves x y f.same.1.1.1.1 n) y'.0 y'.1 in
        let t = all_have_way layer [] rows next' rows' h f.it f.inside x x'.0 n f.same.1.1.0 both.0
        x'.1.0 in
        let alike' : State (f.it.order ++ n ∷ []) (begin ++ n ∷ [])
        = (
          x'.0,
          (
            y'.0,
            (
              led-more go (Some start) f.it.order n x f.same.1.1.0 ∙ x'.1.0,
              (led-more go (Some start) begin n y f.same.1.1.1.0 ∙ y'.1, x'.1.1),
            ),
          ),
        ) in
        let as_long = (s.ways_in f.it f.inside).long ∙ sym long in
        let long' = length-append begin (n ∷ []) in
        record {
          begin = begin ++ n ∷ [];
          rest = rest;
          parts = sym (append_assoc begin (n ∷ []) rest);
          long = omega (arith, long, long');
          from = record {
            it = t.it;
            inside = t.inside;
            same = state-along t.it.order (f.it.order ++ n ∷ []) (begin ++ n ∷ []) t.same alike';
            first = not_after t.it.order (f.it.order ++ n ∷ []) (begin ++ n ∷ []) t.first
                (not_after_longer f.it.order begin (n ∷ []) as_long f.first);
          };
        }

    -- what is left of an order after its first turns decides
    reached_by : (begin rest : List ℕ) → length begin ≡ k → StandsFor State layer begin
        → is_order go tasks (Some start) (begin ++ rest) ≡ true
        → StandsFor Result rows' (begin ++ rest)
        ⊎ GoesOn go Alike start (suc k) next' (begin ++ rest)
    reached_by begin [] long f is =
        let whole = append-nil begin in
        inl (subst (λ (ns : List ℕ). StandsFor Result rows' ns) (sym whole)
        (ends_here begin f (sym (ap (is_order go tasks (Some start)) whole) ∙ is)))
    reached_by begin (n ∷ rest) long f is = inr (goes_on begin rest n long f is)

    reached : (turns : List ℕ) → is_order go tasks (Some start) turns ≡ true
        → StandsFor Result rows turns ⊎ GoesOn go Alike start k layer turns
        → StandsFor Result rows' turns ⊎ GoesOn go Alike start (suc k) next' turns
    reached turns is (inl r) = inl (all_keep_rows layer [] rows next' rows' h turns r)
    reached turns is (inr g) =
        subst (λ (ns : List ℕ). StandsFor Result rows' ns ⊎ GoesOn go Alike start (suc k) next' ns)
        (sym g.parts) (reached_by g.begin g.rest g.long g.from
        (sym (ap (is_order go tasks (Some start)) g.parts) ∙ is))

    -- one step of counting leads from one layer to the next
    pub step : StandsAt go tasks start outcome Alike (suc k) next' rows'
    step = record {
      ways_in = all_ways k layer [] rows next' rows' h s.ways_in
          (λ d none. absurd (in_none d none));
      orders_in = all_orders k layer [] rows next' rows' h s.ways_in s.orders_in;
      counts = λ test r.
          let one = all_add go tasks start outcome Alike alike test r layer [] rows next' rows' h in
          let two = s.counts test (suc r) in
          let index : suc k + r ≡ k + suc r = omega arith in
          let three = ap (λ j. ways go tasks outcome test j (Some start)) index in
          omega (arith, one, two, three);
      reached = λ turns is. reached turns is (s.reached turns is);
    }

  -- ---- the start and the end

  -- before any turn, all orders go on from the start
  pub begins : StandsAt go tasks start outcome Alike 0 (root ∷ []) []
  begins = record {
    ways_in = λ c inside. root_way c (in_cases root [] c inside);
    orders_in = λ c none. absurd (in_none c none);
    counts = λ test r.
        let index = ap (λ j. ways go tasks outcome test j (Some start)) (zero-add r) in
        omega (arith, index);
    reached = λ turns is. inr (record {
      begin = [];
      rest = turns;
      parts = refl;
      long = refl;
      from = record {
        it = root;
        inside = first_in root [];
        same = (start, (start, (refl, (refl, alike.itself [] start refl))));
        first = not_itself [];
      };
    });
  }
    where
      root_way : (c : Counted) → (root ≡ c) ⊎ Contains [] c → IsWay go tasks start 0 c.order
      root_way c (inl is) = subst (λ (x : Counted). IsWay go tasks start 0 x.order) is (record {
        long = refl;
        at = start;
        leads = refl;
        named = refl;
      })
      root_way c (inr none) = absurd (in_none c none)

  module _ (k : ℕ) (rows : List Counted)
      (s : StandsAt go tasks start outcome Alike k [] rows)
      (distinct : (a b : ℕ) (x y : Counted) → a < b → slice_get rows a ≡ Some x
      → slice_get rows b ≡ Some y → Result x.order y.order → ⊥) where
    -- rows with the same outcome are one row
    one_row : (x y : Counted) → Contains rows x → Contains rows y → Result x.order y.order → x ≡ y
    one_row x y a b same = by (cases_order a.0 b.0)
      where
        at_x : slice_get rows a.0 ≡ Some x
        at_x = get_at rows a.0 x a.1 a.2

        at_y : slice_get rows b.0 ≡ Some y
        at_y = get_at rows b.0 y b.1 b.2

        by : (a.0 ≡ b.0) ⊎ ((a.0 < b.0) ⊎ (b.0 < a.0)) → x ≡ y
        by (inl e) = same_Some x y (sym at_x ∙ ap (slice_get rows) e ∙ at_y)
        by (inr (inl lt)) = absurd (distinct a.0 b.0 x y lt at_x at_y same)
        by (inr (inr gt)) = absurd (distinct b.0 a.0 y x gt at_y at_x (sym same))

    -- every order has its row
    has_row : (turns : List ℕ) → is_order go tasks (Some start) turns ≡ true
        → StandsFor Result rows turns
    has_row turns is = by (s.reached turns is)
      where
        by : StandsFor Result rows turns ⊎ GoesOn go Alike start k [] turns
            → StandsFor Result rows turns
        by (inl r) = r
        by (inr g) = absurd (in_none g.from.it g.from.inside)

    -- no order with the outcome of a row comes before it
    is_first : (row : Counted) → Contains rows row → (turns : List ℕ)
        → is_order go tasks (Some start) turns ≡ true → Result turns row.order
        → comes_before turns row.order ≡ false
    is_first row inside turns is same =
        let f = has_row turns is in
        let e = one_row f.it row f.inside inside (f.same ∙ same) in
        subst (λ (x : Counted). comes_before turns x.order ≡ false) e f.first

    -- the layers have come to their end: the rows are those of all orders
    pub ends : AreRows go tasks start outcome rows
    ends = record {
      are_orders = λ j d below. s.orders_in (slice_index_or rows j d)
          (Contains-get_or rows j d below);
      firsts = λ j d below. is_first (slice_index_or rows j d) (Contains-get_or rows j d below);
      each = λ turns is.
          let f = has_row turns is in
          (f.it, (f.inside, sym f.same));
      distinct = distinct;
      most = k;
      counts = λ test j most.
          let all = s.counts test (j - k) in
          let index : k + (j - k) ≡ j = omega (arith, most) in
          let there = ap (λ i. ways go tasks outcome test i (Some start)) index in
          let listed = ways_are_orders go outcome test tasks j (Some start) in
          omega (arith, all, there, listed);
    }
