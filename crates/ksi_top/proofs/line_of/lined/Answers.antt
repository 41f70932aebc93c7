use Rattle.std.proofs.Common.{ℕ, List, refl}
use Rattle.ksi_top.specs.LineOf.{TellsLine, line_told}
use Rattle.ksi_top.proofs.Logs.{LogLaws, means_of, refusal_means, refused_of, told_of}
use Rattle.ksi_top.proofs.line_of.lined.Goals as goal

pub returns-in-Ok-clause-told : goal.returns-in-Ok-clause-told
returns-in-Ok-clause-told c =
    let laws : LogLaws = record { cut = c.log_is_of_lines.ensures.cut; lines = c.log_is_read.ensures.lines; refusal = c.log_is_read.ensures.refusal } in
    told_of laws c.args.seed.now c.args.log.now (λ (seed : List ℕ) (lines : List (List ℕ)). line_told seed c.args.k c.args.out.now lines) c.in-Ok.block c.line_told.result c.in-Ok.ensures.block (c.in-Ok.ensures.taken refl) c.line_told.ensures.told

pub returns-in-Ok-clause-means : goal.returns-in-Ok-clause-means
returns-in-Ok-clause-means c =
    let laws : LogLaws = record { cut = c.log_is_of_lines.ensures.cut; lines = c.log_is_read.ensures.lines; refusal = c.log_is_read.ensures.refusal } in
    means_of laws c.args.seed.now c.args.log.now (λ (seed : List ℕ). TellsLine seed c.args.k c.args.out.now) c.in-Ok.block c.line_told.result c.in-Ok.ensures.block (c.in-Ok.ensures.taken refl) c.line_told.ensures.means

pub returns-in-Err-Fault-clause-told : goal.returns-in-Err-Fault-clause-told
returns-in-Err-Fault-clause-told c =
    let laws : LogLaws = record { cut = c.log_is_of_lines.ensures.cut; lines = c.log_is_read.ensures.lines; refusal = c.log_is_read.ensures.refusal } in
    let refused = rw c.in-Err-Fault.field-0-is at c.in-Err-Fault.ensures.refused in
    let told = rw c.in-Err-Fault.field-0-is at c.log_refused.ensures in
    refused_of laws c.args.seed.now c.args.log.now (λ (seed : List ℕ) (lines : List (List ℕ)). line_told seed c.args.k c.args.out.now lines) c.in-Err-Fault.refusal c.log_refused.result refused told

pub returns-in-Err-Fault-clause-means : goal.returns-in-Err-Fault-clause-means
returns-in-Err-Fault-clause-means c =
    let laws : LogLaws = record { cut = c.log_is_of_lines.ensures.cut; lines = c.log_is_read.ensures.lines; refusal = c.log_is_read.ensures.refusal } in
    let refused = rw c.in-Err-Fault.field-0-is at c.in-Err-Fault.ensures.refused in
    let told = rw c.in-Err-Fault.field-0-is at c.log_refused.ensures in
    refusal_means laws c.args.seed.now c.args.log.now (λ (seed : List ℕ). TellsLine seed c.args.k c.args.out.now) c.in-Err-Fault.refusal c.log_refused.result refused told
