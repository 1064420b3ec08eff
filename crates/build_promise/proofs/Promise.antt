-- The builder keeps its promise (specs/Promise.antt).
use Prim.Native.Nat.{ℕ, ◌-◌}
use native.Mathlib.Omega.{arith}
use mathlib.Core.Path.{◌≡◌, sym, ap, subst, ◌∙◌}
use mathlib.Core.List.{◌++◌}
use lib.ListN.{length, replicate}
use Rattle.language.specs.Grammar.{Grammar}
use Rattle.std.specs.Prelude.{◌↔◌}
use Rattle.reply.specs.declared.Reply.{Reply}
use Rattle.reply.specs.declared.Reply.TheVariants.{Accepted}
use Rattle.analysis.specs.ByRules.{FirstByRules}
use Rattle.analysis.proofs.Decided.{first?}
use Rattle.grammar.specs.Book.{Book, accepted, grammar_of}
use Rattle.grammar.proofs.GrammarLaws.{Reduced, accepted_reduced}
use Rattle.build_states.specs.States.{states}
use Rattle.build_book.proofs.BuiltForm.{states_both}
use Rattle.build_book.proofs.Conflicts as conflicts
use Rattle.build_book.proofs.BookLaws.{limits}
use Rattle.build_states.specs.Lookaheads.{terminal_codes}
use Rattle.build_states.proofs.CodeLaws.{first_in}
use Rattle.build_book.specs.Builder.{builder_table, builder_reply}
use Rattle.checker.specs.Checked.{verdict_of}
use Rattle.builder.specs.Build.{build_from, build_of}
use Rattle.builder.proofs.Accepted.{writes_accepted}
use Rattle.build_promise.specs.Kernels.{WithinLimits}
use Rattle.build_promise.proofs.ManyLaws.{kept}
use Rattle.build_promise.proofs.PromiseLaws as laws
use Rattle.build_promise.proofs.ReplyLaws as reply
use Rattle.build_promise.specs.Promise.{text, TwoActions, Construction, BuilderPromise}

module _ (g : Grammar) (R : Reduced g) where
  -- two actions asked with first by rules are two actions asked with `First`
  two_actions : (q : ℕ) → conflicts.TwoActions g (FirstByRules g) (first? g) (terminal_codes g) (first_in g) q ↔ TwoActions g q
  unfolding builder_table
  two_actions q = (
    λ w. record {
      symbol = w.symbol;
      one = w.one;
      other = w.other;
      asked_one = (laws.asked_same g R).0 w.asked_one;
      asked_other = (laws.asked_same g R).0 w.asked_other;
      differ = w.differ;
    },
    λ w. record {
      symbol = w.symbol;
      one = w.one;
      other = w.other;
      asked_one = (laws.asked_same g R).1 w.asked_one;
      asked_other = (laws.asked_same g R).1 w.asked_other;
      differ = w.differ;
    },
  )

  as_many : (builder_table g).states ≡ length (states g)
  unfolding builder_table
  as_many = states_both g (FirstByRules g) (first? g) (terminal_codes g) (first_in g)

  constructed : WithinLimits g → Construction g
  unfolding builder_table
  constructed few =
      let w = kept g R.formed few in
      let L = limits g R.formed w in
      record {
        contexts = laws.contexts g R L;
        inclusions = laws.inclusions g R L;
        least = λ v h. laws.least g R L v h.entries (λ q i k σ m. h.kernels q i k (σ, m)) h.moves;
        entries = laws.meets g R;
        entry_states = laws.entry_states g R;
        reached = λ q s. laws.reached g R w q s.0 (omega (arith, s.1, as_many));
        every_reached = λ K r. let s = laws.every_reached g R w K r in (s.0, (s.1, omega (arith, s.2, as_many)), s.3);
        distinct = λ p q l m. laws.one_state g R p q l.0 (omega (arith, l.1, as_many)) m.0 (omega (arith, m.1, as_many));
      }

pub builder_promise : BuilderPromise
unfolding build_of
builder_promise gs g e = record {
  construction = constructed g R;
  refuses_conflict = λ room q. told room (reply.refuses_conflict g R.formed (TwoActions g) (two_actions g R) room q);
  book_written = λ room h. let w = writes_accepted gs room h in
      subst (λ (k : Grammar). (build_of gs room).slice ≡ text k ++ replicate (room - length (text k)) 0) (one w.grammar w.book_is) w.slice_is;
  book_length = λ room h. let w = writes_accepted gs room h in subst (λ (k : Grammar). (build_of gs room).length ≡ length (text k)) (one w.grammar w.book_is) w.length_is;
  book_accepted = λ room h. let w = writes_accepted gs room h in subst (λ (k : Grammar). verdict_of gs (text k) ≡ Accepted 0) (one w.grammar w.book_is) w.accepted_book;
  writes = λ room. told room (reply.writes g R.formed (TwoActions g) (two_actions g R) room);
  refuses_many = λ room. told room (reply.refuses_many g R.formed (TwoActions g) (two_actions g R) room);
  refuses_short = λ room. told room (reply.refuses_short g R.formed (TwoActions g) (two_actions g R) room);
}
  where
    R : Reduced g
    R = accepted_reduced gs g e

    one : (k : Grammar) → grammar_of gs ≡ accepted k → k ≡ g
    one k f = cc

    told : (room : ℕ) {r : Reply} {A : Type 0} → (builder_reply g room ≡ r) ↔ A → ((build_of gs room).reply ≡ r) ↔ A
    told room h =
        let z = ap (λ (b : Book). (build_from room b).reply) e in
        (λ x. h.0 (sym z ∙ x), λ a. z ∙ h.1 a)
