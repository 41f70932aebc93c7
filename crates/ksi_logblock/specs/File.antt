-- Which bytes are which line's proof, and the first fault of bytes that are none; and a proof as it is written.
use Rattle.std.specs.Prelude.{ℕ, ◌==◌, List, [], ◌∷◌, ◌++◌, map, codes, if◌then◌else◌}
use Rattle.ksi_split.specs.declared.side.Side.{Side}
use Rattle.ksi_split.specs.declared.side.Side.TheVariants.{Left, Right}
use Rattle.ksi_tlv.specs.Spelling.{Tlv, plain}
use Rattle.ksi_tlv.specs.Numerals.{numeral}
use Rattle.ksi_tlv.specs.Writing.{texts}
use Rattle.ksi_tlv.specs.Format.{Format, IsFile, IsFileFault}
use Rattle.ksi_logblock.specs.declared.line_proof.LineLink.{LineLink}
use Rattle.ksi_logblock.specs.declared.line_proof.LineProof.{LineProof}
use Rattle.ksi_logblock.specs.declared.proof_fault.ProofFault.{ProofFault}
use Rattle.ksi_logblock.specs.declared.proof_fault.ProofFault.TheVariants as faults
use Rattle.ksi_logblock.specs.Elements.{Said, nothing_yet, proof_order}

abbrev pub magic : List ℕ
magic = codes "KSILINE1"

abbrev pub proof_of : Said → LineProof
proof_of said = record { mask = said.mask; links = said.links }

-- after the magic there are whole elements in their order, which encode a proof
unfoldable pub proof_format : Format Said ProofFault LineProof
proof_format = record { magic = magic; other = faults.Magic; order = proof_order; start = nothing_yet; value = proof_of }

abbrev pub IsProofFile : List ℕ → LineProof → Type 0
IsProofFile = IsFile proof_format

abbrev pub IsProofFault : List ℕ → ProofFault → Type 0
IsProofFault = IsFileFault proof_format

-- ---- as it is written

-- a correction of 0 is left out
abbrev pub correction_elements : ℕ → List Tlv
correction_elements correction = if correction == 0 then [] else plain 1 (numeral correction) ∷ []

abbrev pub link_elements : LineLink → List Tlv
link_elements link = correction_elements link.correction ++ plain 2 link.sibling ∷ []

abbrev pub kind_of : Side → ℕ
kind_of Left = 7
kind_of Right = 8

abbrev pub link_element : LineLink → Tlv
link_element link = plain (kind_of link.side) (texts (link_elements link))

abbrev pub proof_elements : LineProof → List Tlv
proof_elements proof = plain 1 proof.mask ∷ map link_element proof.links

abbrev pub proof_text : LineProof → List ℕ
proof_text proof = magic ++ texts (proof_elements proof)
