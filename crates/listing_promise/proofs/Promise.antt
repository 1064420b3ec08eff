-- The promise (specs/Promise.antt), proved: a sentence has one derivation, which demand 3 says its session lists.
use Prim.Native.Nat.{ℕ, ◌≤◌, ◌<◌}
use native.Mathlib.Decide.{dec_le}
use native.Mathlib.Omega.{arith}
use mathlib.Core.Path.{◌≡◌, sym, ap, subst, ◌∙◌}
use mathlib.Core.Logic.{◌⊎◌, inl, inr}
use mathlib.Core.List.{List}
use lib.ListN.{length}
use Rattle.language.specs.Grammar.{Grammar}
use Rattle.language.specs.Derivation.{Tree, yield, IsTree}
use Rattle.language.specs.Listing.{listing}
use Rattle.language.specs.Sentence.{Sentence, Declared}
use Rattle.language.specs.WellFormed.{declared_of}
use Rattle.language.proofs.Terminals.{sentence_terminals}
use Rattle.leftcorner.specs.Table.{Table}
use Rattle.reply.specs.Reply.{number_of}
use Rattle.reply.specs.declared.Kind.TheVariants.{BufferTooSmall}
use Rattle.grammar.specs.Book.{accepted, grammar_of}
use Rattle.table_facts.proofs.Sound.{tables_grammar}
use Rattle.checker.specs.Checked.{Accepts}
use Rattle.checker.proofs.Exactly.{accepts, accepted_sound, exactly}
use Rattle.walker.specs.Walked.{as_reply, rule_count}
use Rattle.session.specs.Session.{Session, refused_at, session}
use Rattle.session.specs.Demand3.{whole_with, Demanded}
use Rattle.session.proofs.SessionLaws.{whole_tokens}
use Rattle.session.proofs.Demand3.{claimed, demands, need_listed}
use Rattle.listing_bound.specs.declared.ListingBound.TheVariants.{Rules}
use Rattle.listing_bound.specs.Bound.{bound_of}
use Rattle.listing_bound.proofs.EmptyLaws.{has_empty_lem, none_empty}
use Rattle.listing_bound.proofs.BoundLaws.{of_empty, of_filled, too_many, bound_book}
use Rattle.listing_promise.specs.Promise.{EpsilonFree, most, Listed, Suffices, ListingPromise}
use Rattle.listing_promise.proofs.Chain.{some_yield, few_rules}

module _ (gs s : List ℕ) {g : Grammar} {t : Table} (A : Accepts gs s g t) (f : EpsilonFree g) where
  kinds : Declared g
  kinds = declared_of (accepted_sound gs s (accepts gs s A)).formed

  -- ---- sentences, of any length
  module _ (w : List ℕ) (S : Sentence g w) where
    some_scan : 1 ≤ length w
    some_scan = subst (λ (u : List ℕ). 1 ≤ length u) S.yields_it (some_yield g kinds.left_kind f S.tree g.goal S.derives)

    at_most : (T : Tree) → IsTree g T g.goal → yield T ≡ w → length (listing g T) ≤ most g (length w)
    at_most T h y =
        let C = claimed gs s A w (λ a m. sentence_terminals g a S m) in
        let b = few_rules g kinds.left_kind f T g.goal h (λ M k z. C.one_derivation M T k h (z ∙ y) y) in
        omega (arith, b, ap (λ (u : List ℕ). most g (length u)) y)

    listed : Listed g w
    listed = record { some_scan = some_scan; at_most = at_most }

-- what the call answers where there is a bound
bounded : (gs : List ℕ) (g : Grammar) (k : ℕ) → grammar_of gs ≡ accepted g → k ≤ 65535 → EpsilonFree g → bound_of gs k ≡ Rules (most g k)
bounded gs g k e few f = bound_book gs k few e ∙ of_filled g k (none_empty g f)

abbrev number : Session → ℕ
number x = number_of (as_reply x.reply)

module _ (gs s : List ℕ) {g : Grammar} {t : Table} (A : Accepts gs s g t) (f : EpsilonFree g) where
  -- ---- the session over a sentence
  module _ (w : List ℕ) (S : Sentence g w) (few : length w ≤ 65535) where
    abbrev D : Demanded gs s g t w
    D = demands gs s A w few (λ a m. sentence_terminals g a S m)

    whole : (n k : ℕ) → D.stack_need ≤ n → most g (length w) ≤ k → (T : Tree) → IsTree g T g.goal → yield T ≡ w → session gs s w n k ≡ whole_with g w n k T
    whole n k a b T h y =
        (D.enough n k a (omega (arith, b, at_most gs s A f w S T h y, need_listed gs s A w few (λ a m. sentence_terminals g a S m) T h y))).its_derivation T h y

    stack_short : (n k p : ℕ) → most g (length w) ≤ k → session gs s w n k ≡ refused_at n k BufferTooSmall p → n < D.stack_need
    stack_short n k p b e = go (dec_le D.stack_need n)
      where
        go : Dec (D.stack_need ≤ n) → n < D.stack_need
        go (yes a) = absurd (omega (arith, ap number (sym (whole n k a b S.tree S.derives S.yields_it) ∙ e)))
        go (no a) = omega (arith, a)

    suffices : Suffices gs s g t w
    suffices = record {
      stack_need = D.stack_need;
      listing_need = D.listing_need;
      needs = D.needs;
      handed_out = bounded gs g (length w) (tables_grammar gs s A.reads) few f;
      whole = whole;
      stack_short = stack_short;
    }

  -- ---- sessions that are whole
  module _ (w : List ℕ) (n k : ℕ) (e : number_of (as_reply (session gs s w n k).reply) ≡ 0) where
    lists : (1 ≤ length w) × (rule_count (session gs s w n k).reply ≤ most g (length w))
    lists = let tokens = whole_tokens gs s (accepts gs s A) w n k e in by (demands gs s A w tokens.0 tokens.1)
      where
        by : Demanded gs s g t w → (1 ≤ length w) × (rule_count (session gs s w n k).reply ≤ most g (length w))
        by E = go (dec_le E.stack_need n) (dec_le E.listing_need k)
          where
            short : (n < E.stack_need) ⊎ (k < E.listing_need) → ⊥
            short h = omega (arith, e, ap number (E.short n k h).1)

            go : Dec (E.stack_need ≤ n) → Dec (E.listing_need ≤ k) → (1 ≤ length w) × (rule_count (session gs s w n k).reply ≤ most g (length w))
            go (no a) b = absurd (short (inl (omega (arith, a))))
            go (yes a) (no b) = absurd (short (inr (omega (arith, b))))
            go (yes a) (yes b) =
                let x = E.enough n k a b in
                let S = x.whole_exactly.0 e in
                let is = x.its_derivation S.tree S.derives S.yields_it in
                (some_scan gs s A f w S, omega (arith, ap (λ (y : Session). rule_count y.reply) is, at_most gs s A f w S S.tree S.derives S.yields_it))

pub listing_promise : ListingPromise
listing_promise = record {
  accepted_tables = λ gs s e.
      let h = (exactly gs s).0 e in
      (h.0, h.1, h.2, λ f. record { sessions = lists gs s h.2 f; sentences = listed gs s h.2 f; suffices = suffices gs s h.2 f });
  bounded = bounded;
  unbounded = λ gs g k e few i r at z. bound_book gs k few e ∙ of_empty g k (has_empty_lem g i r at z);
  refused = λ gs why k e few. bound_book gs k few e;
  too_many = too_many;
}
