use Rattle.std.proofs.Common.{rules, ◌*◌, ◌+◌, ◌-◌, ◌≡◌, arith, ◌∙◌, length}
use Rattle.desk_codes.proofs.WordLemmas.{first_word, front_same, half_written, last_word, same_more, word_written}
use Rattle.desk_codes.proofs.words.order_words.Goals as goal

pub returns-then-own-other : goal.returns-then-own-other
returns-then-own-other c =
    let xs = c.args.a.now in
    let ys = c.args.b.now in
    let at = 8 * c.loop-index.index in
    c.cmp-then-own-other.ensures
    ∙ first_word xs ys (search rules) (search rules) c.requires 8 at (omega arith) _ _ (word_written xs at _ (omega arith) c.word_at-own.ensures) (word_written ys at _ (omega arith) c.word_at-other.ensures) c.loop-index.invariant c.if-own-other.true

pub loop-index-preserved : goal.loop-index-preserved
loop-index-preserved c =
    let xs = c.args.a.now in
    let ys = c.args.b.now in
    let at = 8 * c.loop-index.index in
    let next : 8 * (c.loop-index.index + 1) ≡ 8 * c.loop-index.index + 8 = omega arith in
    rw next (same_more xs ys (search rules) (search rules) c.requires 8 at (omega arith) _ _ (word_written xs at _ (omega arith) c.word_at-own.ensures) (word_written ys at _ (omega arith) c.word_at-other.ensures) c.loop-index.invariant c.if-own-other.false)

pub returns-then-a-words-le4 : goal.returns-then-a-words-le4
returns-then-a-words-le4 c =
    let xs = c.args.a.now in
    let ys = c.args.b.now in
    let last = length xs - 4 in
    let same = front_same (8 * c.loop-index.index) last xs ys (omega arith) c.loop-index.invariant in
    c.cmp-then-a-words-le4.ensures
    ∙ last_word xs ys (search rules) (search rules) c.requires 4 last (omega arith) _ _ (half_written xs last _ (omega arith) c.half_word_at.ensures) (half_written ys last _ (omega arith) c.half_word_at-then-a-words-le4.ensures) same (omega arith)

pub returns : goal.returns
returns c =
    let xs = c.args.a.now in
    let ys = c.args.b.now in
    let last = length xs - 8 in
    let same = front_same (8 * c.loop-index.index) last xs ys (omega arith) c.loop-index.invariant in
    c.cmp-2.ensures ∙ last_word xs ys (search rules) (search rules) c.requires 8 last (omega arith) _ _ (word_written xs last _ (omega arith) c.word_at.ensures) (word_written ys last _ (omega arith) c.word_at-2.ensures) same (omega arith)
