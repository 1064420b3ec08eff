-- What is answered for each way that building may end.
use Prim.Native.Nat.{ℕ, ◌+◌, ◌≤◌}
use native.Mathlib.Omega.{arith}
use mathlib.Core.Path.{◌≡◌, refl, sym, ap, subst, ◌∙◌}
use mathlib.Core.List.{List}
use lib.ListN.{length, replicate, length-replicate}
use Rattle.language.specs.Grammar.{Grammar}
use Rattle.reply.specs.declared.Kind.TheVariants.{LimitExceeded, Conflict}
use Rattle.reply.specs.declared.Refusal.{Refusal}
use Rattle.grammar.specs.Book.{Book, accepted, rejected, grammar_of}
use Rattle.table.specs.declared.Counts.{Counts}
use Rattle.build_writer.specs.MemoryTable.{memory_text}
use Rattle.build_memory.specs.Memory.{Constructed, PastLimits}
use Rattle.build_reply.specs.declared.BuildReply.{BuildReply}
use Rattle.build_reply.specs.Reply.{refused_by, Writes}
use Rattle.builder.specs.Build.{build_from, build_of}
use Rattle.builder.proofs.BookLaws.{Answers, answers_many, answers_conflict, answers_book}

-- a slice of zeros
pub zeros_again : (n : ℕ) {out : List ℕ} → out ≡ replicate n 0 → out ≡ replicate (length out) 0
zeros_again n {out} e = e ∙ ap (λ (m : ℕ). replicate m 0) (sym (ap length e ∙ length-replicate n 0))

in_room : {n : ℕ} {zeros : List ℕ} {g : Grammar} {r : BuildReply} {out : List ℕ} → zeros ≡ replicate n 0 → Answers g (length zeros) r out → Answers g n r out
in_room {n} {zeros} {g} {r} {out} e a = subst (λ (m : ℕ). Answers g m r out) (ap length e ∙ length-replicate n 0) a

module _ (gs : List ℕ) (room : ℕ) where
  abbrev pub Answered : BuildReply → List ℕ → Type 0
  Answered r out = (r.reply ≡ (build_of gs room).reply) × ((r.length ≡ (build_of gs room).length) × ((out ≡ (build_of gs room).slice) × (r.length ≤ room)))

  build_answers : {g : Grammar} {r : BuildReply} {out : List ℕ} → grammar_of gs ≡ accepted g → Answers g room r out → Answered r out
  unfolding build_of
  build_answers e a = (
    a.reply_is ∙ sym (ap (λ (b : Book). (build_from room b).reply) e),
    (
      a.length_is ∙ sym (ap (λ (b : Book). (build_from room b).length) e),
      (a.slice_is ∙ sym (ap (λ (b : Book). (build_from room b).slice) e), a.fits),
    ),
  )

  pub build_refused : {x : Refusal} {r : BuildReply} {out : List ℕ} → grammar_of gs ≡ rejected x → r ≡ refused_by x → out ≡ replicate room 0 → Answered r out
  unfolding build_of
  build_refused {x} {r} {out} f e o = subst (λ (b : BuildReply). Answered b out) (sym e) (
    sym (ap (λ (b : Book). (build_from room b).reply) f),
    (sym (ap (λ (b : Book). (build_from room b).length) f), (o ∙ sym (ap (λ (b : Book). (build_from room b).slice) f), omega arith)),
  )

  pub build_many : {r : BuildReply} {out : List ℕ} → PastLimits gs → r ≡ refused_by (record { kind = LimitExceeded; place = 0 }) → out ≡ replicate room 0 → Answered r out
  build_many L e o = build_answers L.book_is (answers_many L.grammar room L.past_limits e refl o)

  module _ {n : Counts} {q : ℕ} {items entries kernels lookaheads kinds values gotos : List ℕ} (C : Constructed gs n q items entries kernels lookaheads kinds values gotos) {r : BuildReply}
      {out : List ℕ} where
    pub build_conflict : (q ≡ 0 → ⊥) → r ≡ refused_by (record { kind = Conflict; place = q }) → out ≡ replicate room 0 → Answered r out
    build_conflict f e o = build_answers C.book_is (answers_conflict C.stated room f C.settled e o)

    pub build_book : {zeros : List ℕ} → zeros ≡ replicate room 0 → q ≡ 0
        → Writes (memory_text items entries kernels lookaheads kinds values gotos n.grammar.rules n.entries n.kernels n.states (n.grammar.terminals + 1)) (length zeros) r out
        → Answered r out
    build_book {zeros} z k w = build_answers C.book_is (in_room z (answers_book C.stated (length zeros) k C.numbered C.settled w))
