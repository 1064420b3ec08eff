-- The first line of a table book that is read has its figures within the limits; and it comes to the same by its numbers as memory keeps them.
use Prim.Native.Nat.{ℕ, ◌≤◌}
use mathlib.Core.Path.{◌≡◌, refl, sym, ap, ap₂, subst, ◌∙◌}
use mathlib.Core.List.{List}
use mathlib.Core.Bool.{Bool, true, false, cond, ◌&&◌}
use native.Mathlib.Decide.{dec_le}
use native.Mathlib.Omega.{arith}
use lib.Dec.{eqb}
use lib.ListN.{length, get_or}
use Rattle.language.proofs.TestLaws.{both_true}
use Rattle.reply.specs.declared.Kind.TheVariants as kind
use Rattle.table_lines.specs.Line.{TextLine, line_at, on_line, cap, caps, capped}
use Rattle.table_lines.specs.Line as line
use Rattle.table_lines.proofs.CapLaws.{caps-length, caps_at, line_caps}
use Rattle.range.specs.Range.{within}
use Rattle.range.proofs.RangeLaws.{within-true, false-within}
use Rattle.table_head.specs.declared.Head.{Head}
use Rattle.table_head.specs.declared.Head.TheVariants as head
use Rattle.table_head.specs.Head.{head_at, head_from, head_of}

pub head_within : (s : List ℕ) {states entries first : ℕ} → head_of s ≡ head.Read states entries first → ((1 ≤ states) × (states ≤ 255)) × ((1 ≤ entries) × (entries ≤ 127))
unfolding head_of
head_within s {states} {entries} {first} e = go (line_at s 0) e
  where
    figures : (letter : ℕ) (ns : List ℕ) (next : ℕ) (x y : Bool) → within 1 (get_or ns 0 0) 255 && within 1 (get_or ns 1 0) 127 ≡ y
        → cond x (cond y (head.Read (get_or ns 0 0) (get_or ns 1 0) next) (head_at kind.LimitExceeded)) (head_at kind.Malformed) ≡ head.Read states entries first
        → ((1 ≤ states) × (states ≤ 255)) × ((1 ≤ entries) × (entries ≤ 127))
    figures letter ns next true true p e =
        let w = both_true (within 1 (get_or ns 0 0) 255) (within 1 (get_or ns 1 0) 127) p in
        let a : get_or ns 0 0 ≡ states = cc in
        let b : get_or ns 1 0 ≡ entries = cc in (
          subst (λ (v : ℕ). (1 ≤ v) × (v ≤ 255)) a (within-true 1 (get_or ns 0 0) 255 w.0),
          subst (λ (v : ℕ). (1 ≤ v) × (v ≤ 127)) b (within-true 1 (get_or ns 1 0) 127 w.1),
        )
    figures letter ns next true false p e = let z : ◌≡◌ {A = ℕ} 0 1 = cc in absurd (omega arith)
    figures letter ns next false y p e = let z : ◌≡◌ {A = ℕ} 0 1 = cc in absurd (omega arith)

    go : (x : TextLine)
        → on_line x (λ letter ns next. cond (eqb letter 84 && eqb (length ns) 2)
        (cond (within 1 (get_or ns 0 0) 255 && within 1 (get_or ns 1 0) 127) (head.Read (get_or ns 0 0) (get_or ns 1 0) next) (head_at kind.LimitExceeded)) (head_at kind.Malformed)) (head_at kind.Malformed)
        ≡ head.Read states entries first
        → ((1 ≤ states) × (states ≤ 255)) × ((1 ≤ entries) × (entries ≤ 127))
    go (line.whole letter ns next) e = figures letter ns next (eqb letter 84 && eqb (length ns) 2) (within 1 (get_or ns 0 0) 255 && within 1 (get_or ns 1 0) 127) refl e
    go line.broken e = let z : ◌≡◌ {A = ℕ} 0 1 = cc in absurd (omega arith)

-- ---- by its numbers as memory keeps them
within_caps : (v most : ℕ) → most ≤ 65535 → within 1 (cap v) most ≡ within 1 v most
within_caps v most h = go (dec_le v 65535)
  where
    go : Dec (v ≤ 65535) → within 1 (cap v) most ≡ within 1 v most
    go (yes k) = let c : cap v ≡ v = omega (arith, k) in ap (λ (n : ℕ). within 1 n most) c
    go (no k) = false-within 1 (cap v) most (λ p q. omega arith) ∙ sym (false-within 1 v most (λ p q. omega arith))

pub head_capped : (s : List ℕ) → head_of s ≡ head_from (capped (line_at s 0))
unfolding head_of
head_capped s = line_caps (λ letter ns next. head_from (line.whole letter ns next)) (head_at kind.Malformed) same (line_at s 0)
  where
    figures : (a b next : ℕ) (x y : Bool) → within 1 a 255 ≡ x → within 1 b 127 ≡ y
        → cond (x && y) (head.Read (cap a) (cap b) next) (head_at kind.LimitExceeded) ≡ cond (x && y) (head.Read a b next) (head_at kind.LimitExceeded)
    figures a b next true true p q =
        let w = within-true 1 a 255 p in
        let v = within-true 1 b 127 q in
        let c : cap a ≡ a = omega (arith, w.1) in
        let d : cap b ≡ b = omega (arith, v.1) in
        ap₂ (λ (m n : ℕ). head.Read m n next) c d
    figures a b next true false p q = refl
    figures a b next false y p q = refl

    same : (letter : ℕ) (ns : List ℕ) (next : ℕ) → head_from (line.whole letter (caps ns) next) ≡ head_from (line.whole letter ns next)
    same letter ns next =
        rw (caps-length ns, caps_at ns 0, caps_at ns 1, within_caps (get_or ns 0 0) 255 (omega arith), within_caps (get_or ns 1 0) 127 (omega arith))
        (ap (λ (h : Head). cond (eqb letter 84 && eqb (length ns) 2) h (head_at kind.Malformed))
        (figures (get_or ns 0 0) (get_or ns 1 0) next (within 1 (get_or ns 0 0) 255) (within 1 (get_or ns 1 0) 127) refl refl))
