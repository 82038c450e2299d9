-- The proof of replay: each call is carried out in turn, and the law holds of the tally.
use Rattle.std.proofs.Common.{◌<◌, ◌≤◌, [], length, None, sym, ◌∙◌, subst, arith}
use Rattle.sheets.specs.declared.replays.Call.TheVariants.{Note}
use Rattle.sheets.specs.declared.replays.Entry.{Entry}
use Rattle.sheets.specs.Transitions.{transition}
use Rattle.sheets.specs.Contents.{Contents, contents_of, new_sheet_answer}
use Rattle.sheets.specs.Held.{held}
use Rattle.sheets.specs.Tallies.{answered, calls_of, tally, TallyLaw}
use Rattle.sheets.proofs.InOrder.{law}
use Rattle.sheets.proofs.Scripts.{script_more, contents_more, script_end, contents_end, where_made}
use Rattle.sheets.proofs.replays.replay.Goals as goal

pub loop-entry-preserved : goal.loop-entry-preserved
loop-entry-preserved c =
    let es = c.loop-entry.script in
    let i = c.loop-entry.entry-index in
    let before = held c.loop-entry.sheet in
    let after = held c.carry_out.new.sheet in
    let r = c.carry_out.result in
    let said = c.carry_out.ensures in
    let d : Entry = record { call = Note (transition 0 0 0); answer = None } in
    let within : i < length es = omega (arith, c.loop-entry-test.true, c.loop-entry.auto.script) in (
      script_more before after i es d r within said.answer said.after ∙ c.loop-entry.invariant.0,
      contents_more before after i es d r within said.after ∙ c.loop-entry.invariant.1,
    )

pub returns : goal.returns
returns c =
    let n = c.args.states in
    let k = c.args.signals in
    let es = c.args.script.now in
    let last = held c.loop-entry.sheet in
    let past : length c.loop-entry.script ≤ c.loop-entry.entry-index = omega (arith, c.loop-entry-test.false, c.loop-entry.auto.script) in
    let ok = c.in_ok-new_sheet.ensures.answer in
    let is = sym (contents_end last c.loop-entry.entry-index c.loop-entry.script past) ∙ c.loop-entry.invariant.1 in
    record {
      answer = ok;
      after = where_made (new_sheet_answer n k) (tally n k (calls_of es)) (held c.args.sheet.now) last ok is;
      answered =
          where_made (new_sheet_answer n k) (answered (contents_of n k []) es) es c.loop-entry.script ok
          (sym (script_end last c.loop-entry.entry-index c.loop-entry.script past) ∙ c.loop-entry.invariant.0);
      law = subst (λ (d : Contents). TallyLaw n k (calls_of es) d.steps) (sym is) (law n k (calls_of es));
    }
