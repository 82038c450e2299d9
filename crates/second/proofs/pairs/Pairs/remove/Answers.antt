-- The pair is taken out, and no other.
use Rattle.std.proofs.Common.{not, ◌&&◌, eqb, ap, sym, ◌∙◌, arith}
use Rattle.std.proofs.lemmas.Bool.{le-ltb}
use Rattle.second.specs.Pairs.{flag}
use Rattle.second.proofs.Rows.{past_rows, none_taken, one_taken}
use Rattle.second.proofs.pairs.Pairs.remove.Goals as goal

pub returns-then-pair-len-clause-others : goal.returns-then-pair-len-clause-others
returns-then-pair-len-clause-others c = λ p.
    let r = c.args.pair.now.right in
    one_taken c.args.self.now.rows.items c.args.pair.now.left r c.index_mut.result.now c.unflag.new.row (omega (arith, c.if-pair-len.true, c.len.ensures))
    (λ q. c.unflag.ensures.others q ∙ ap (λ row. flag row q && not (eqb q r)) c.index_mut.ensures.value)
    p.left p.right

pub returns-else-pair-len-clause-answer : goal.returns-else-pair-len-clause-answer
returns-else-pair-len-clause-answer c =
    le-ltb c.args.pair.now.left c.len.result c.if-pair-len.false
    ∙ sym (past_rows c.args.self.now.rows.items c.args.pair.now.left c.args.pair.now.right (omega (arith, c.if-pair-len.false, c.len.ensures)))

pub returns-else-pair-len-clause-others : goal.returns-else-pair-len-clause-others
returns-else-pair-len-clause-others c = λ p.
    none_taken c.args.self.now.rows.items c.args.pair.now.left c.args.pair.now.right (omega (arith, c.if-pair-len.false, c.len.ensures)) p.left p.right
