use Rattle.std.proofs.Common.{◌≡◌, ◌∙◌, Bool, Ok, Err, ap, sym, subst}
use Rattle.ksi_records.specs.declared.blocks.lines.Came.{Came}
use Rattle.ksi_records.specs.declared.blocks.lines.Came.TheVariants as comes
use Rattle.ksi_records.specs.Blocks.Steps.{IsLineOf}
use Rattle.ksi_records.specs.Heads.{came_in, head_at}
use Rattle.ksi_records.specs.Entries.{first_line}
use Rattle.ksi_records.specs.Steps.{IsBlockBehind}
use Rattle.ksi_records.proofs.EntryLemmas.{cut_entry, faulty_entry, whole_entry}
use Rattle.ksi_records.proofs.entry.next_entry.Goals as goal

pub returns-in-Err-Fault-clause-next : goal.returns-in-Err-Fault-clause-next
returns-in-Err-Fault-clause-next g c =
    let plan = c.args.plan.now in
    let version = c.args.version in
    let line = c.next_line.new.line.items in
    let fault = c.in-Err-Fault.fault in
    let old = g.S.Read.remaining c.args.log.now in
    let mid = g.S.Read.remaining c.next_line.new.log in
    let came : IsLineOf old mid line comes.Line = subst (λ (came : Came). IsLineOf old mid line came) c.in-Line.is c.in_ok-next_line.ensures in
    let told : head_at plan version c.deref.result.now ≡ Err fault = rw c.in-Err-Fault.field-0-is at c.in-Err-Fault.ensures.exact in
    let is : head_at plan version line ≡ Err fault = ap (head_at plan version) (sym c.deref.ensures.value) ∙ told in
    faulty_entry plan version old mid line fault came is

pub returns-then-branch-clause-next : goal.returns-then-branch-clause-next
returns-then-branch-clause-next g c =
    let plan = c.args.plan.now in
    let version = c.args.version in
    let line = c.next_line.new.line.items in
    let head = c.in-Ok.head in
    let old = g.S.Read.remaining c.args.log.now in
    let mid = g.S.Read.remaining c.next_line.new.log in
    let new = g.S.Read.remaining c.next_block.new.log in
    let block = c.next_block.new.block.items in
    let came : IsLineOf old mid line comes.Line = subst (λ (came : Came). IsLineOf old mid line came) c.in-Line.is c.in_ok-next_line.ensures in
    let is : head_at plan version line ≡ Ok head = ap (head_at plan version) (sym c.deref.ensures.value) ∙ c.in-Ok.ensures.exact in
    let text : line ≡ first_line version head (came_in version line) =
    sym c.deref.ensures.value ∙ c.in-Ok.ensures.text ∙ (λ i. first_line version head (came_in version (c.deref.ensures.value i))) in
    whole_entry plan version old mid new line block head came is text (subst (λ (whole : Bool). IsBlockBehind head mid new block whole) c.if-branch.true c.in_ok-next_block.ensures)

pub returns-else-branch-clause-next : goal.returns-else-branch-clause-next
returns-else-branch-clause-next g c =
    let plan = c.args.plan.now in
    let version = c.args.version in
    let line = c.next_line.new.line.items in
    let head = c.in-Ok.head in
    let old = g.S.Read.remaining c.args.log.now in
    let mid = g.S.Read.remaining c.next_line.new.log in
    let new = g.S.Read.remaining c.next_block.new.log in
    let block = c.next_block.new.block.items in
    let came : IsLineOf old mid line comes.Line = subst (λ (came : Came). IsLineOf old mid line came) c.in-Line.is c.in_ok-next_line.ensures in
    let is : head_at plan version line ≡ Ok head = ap (head_at plan version) (sym c.deref.ensures.value) ∙ c.in-Ok.ensures.exact in
    cut_entry plan version old mid new line block head came is (subst (λ (whole : Bool). IsBlockBehind head mid new block whole) c.if-branch.false c.in_ok-next_block.ensures)
