-- The first line of a table book. Document 01, 'Books': "Table book, in blocks: `T,states,entries`".
use Rattle.std.specs.Prelude.{ℕ, List, cond, ◌&&◌, eqb, length, get_or}
use Rattle.range.specs.Range.{within}
use Rattle.reply.specs.declared.Kind.{Kind}
use Rattle.reply.specs.declared.Kind.TheVariants as kind
use Rattle.reply.specs.declared.Refusal.{Refusal}
use Rattle.table_lines.specs.Line.{TextLine, line_at, on_line}
use Rattle.table_head.specs.declared.Head.{Head}
use Rattle.table_head.specs.declared.Head.TheVariants as head

-- `T` is 84. "states | 1 | 255", "entries | 1 | 127"
abbrev pub head_at : Kind → Head
head_at k = head.Refused (record { kind = k; place = 0 })

abbrev pub head_from : TextLine → Head
head_from x =
    on_line x (λ letter ns next.
    cond (eqb letter 84 && eqb (length ns) 2)
    (cond (within 1 (get_or ns 0 0) 255 && within 1 (get_or ns 1 0) 127) (head.Read (get_or ns 0 0) (get_or ns 1 0) next) (head_at kind.LimitExceeded))
    (head_at kind.Malformed))
    (head_at kind.Malformed)

unfoldable pub head_of : List ℕ → Head
head_of s = head_from (line_at s 0)

abbrev pub on_head : {A : Type 0} → Head → (ℕ → ℕ → ℕ → A) → (Refusal → A) → A
on_head (head.Read states entries next) f y = f states entries next
on_head (head.Refused why) f y = y why
