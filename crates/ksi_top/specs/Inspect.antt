-- The command `inspect`.
use Rattle.std.specs.Prelude.{◌≡◌, ℕ, List, [], ◌∷◌, codes}
use Rattle.std.specs.Fmt.{decimal}
use Rattle.ksi_nodestore.specs.declared.inspected.Inspected.{Inspected}
use Rattle.ksi_nodestore.specs.Inspecting.{IsInspected}
use Rattle.ksi_lines.specs.Lines.{line_text}
use Rattle.ksi_top.specs.declared.report.Report.{Report}
use Rattle.ksi_top.specs.declared.status.Status.TheVariants.{Done}
use Rattle.ksi_top.specs.Reports.{CommandRow, report, ends, behind, WhereRead}
use Rattle.ksi_top.specs.Loading.{content, loaded_node, file_limit}

abbrev pub inspected_line : (core records sealed held : ℕ) → List ℕ
inspected_line core records sealed held = line_text (
    codes "core" ∷ decimal core ∷ codes "records" ∷ decimal records ∷ codes "sealed" ∷ decimal sealed ∷ codes "held" ∷ decimal held ∷ [])

-- whose file it is, how many records it has, and how many seconds the core sealed and holds
abbrev pub said_of : Inspected → Report
said_of said = report Done (inspected_line said.core said.counts.records said.counts.sealed said.counts.held)

-- The file is one of a core, with this many facts, for this many seconds.
pub record HasSaid (file : List ℕ) (report : Report) : Type 0 where
  pub said : Inspected
  pub is : IsInspected file said
  pub reported : report ≡ said_of said

-- the node file is loaded, and its content is reported
abbrev pub inspect_command : (node : List ℕ) → CommandRow
inspect_command node = record {
  files = (1, file_limit) ∷ [];
  saves = 0;
  ran = λ held. behind (loaded_node 1 held node) (λ said. ends (said_of said));
  means = λ held. WhereRead (HasSaid (content held node));
}
