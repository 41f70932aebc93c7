use Rattle.std.proofs.Common.{◌≡◌, length, drop, ◌∙◌, arith}
use Rattle.ksi_records.proofs.TextLemmas.{appended, block_is_cut, block_goes_on, reads_more}
use Rattle.ksi_records.proofs.blocks.lines.read_block.Goals as goal

pub returns-in-Cut : goal.returns-in-Cut
returns-in-Cut g c =
    let old = c.lines.block.items in
    let read = c.read_until.new.buf.items in
    let line = c.split_at.result.1.now in
    let before : c.len-before.result ≡ length old = omega arith in
    let same : line ≡ drop (length old) read = c.split_at.ensures.back ∙ (λ i. drop (before i) (c.deref.ensures.value i)) in
    block_is_cut (g.S.Read.remaining c.args.log.now) (g.S.Read.remaining c.lines.log) old read line c.lines.invariant.read c.in_ok-read_until.ensures.bytes c.in_ok-read_until.ensures.stops same c.in-Cut.ensures c.lines.invariant.lines

pub lines-preserved : goal.lines-preserved
lines-preserved g c =
    let old = c.lines.block.items in
    let read = c.read_until.new.buf.items in
    let line = c.split_at.result.1.now in
    let before : c.len-before.result ≡ length old = omega arith in
    let same : line ≡ drop (length old) read = c.split_at.ensures.back ∙ (λ i. drop (before i) (c.deref.ensures.value i)) in
    record {
      read = reads_more (g.S.Read.remaining c.args.log.now) (g.S.Read.remaining c.lines.log) (g.S.Read.remaining c.read_until.new.self) old read c.lines.invariant.read c.in_ok-read_until.ensures.appends c.in_ok-read_until.ensures.none_lost;
      lines = block_goes_on old read line c.in_ok-read_until.ensures.stops (appended old read c.in_ok-read_until.ensures.appends) same c.in-Other.ensures.0 c.in-Other.ensures.1 c.in-Other.ensures.2 c.lines.invariant.lines;
    }
