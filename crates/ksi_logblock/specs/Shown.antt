-- What the answers about a line and its proof show.
use Rattle.std.specs.Prelude.{◌≡◌, ◌≢◌, ◌⊎◌, ℕ, ◌<◌, ◌≤◌, List, length, Ok, Err}
use Rattle.std.specs.List.{AllByRecursion}
use Rattle.ksi_imprint.specs.Imprints.{IsClash, IsImprint}
use Rattle.ksi_imprint.specs.declared.clash.Clash as clashes
use Rattle.ksi_split.specs.Ways.{way_of}
use Rattle.ksi_logblock.specs.declared.line_proof.LineProof.{LineProof}
use Rattle.ksi_logblock.specs.declared.locating.Located.{Located}
use Rattle.ksi_logblock.specs.declared.locating.Located.TheVariants.{NotAccepted, In, Clash}
use Rattle.ksi_logblock.specs.declared.locating.LineRefusal.{LineRefusal}
use Rattle.ksi_logblock.specs.declared.locating.LineRefusal.TheVariants.{Level, RootDiffers}
use Rattle.ksi_logblock.specs.Blocks.{Masked, line_at, longest_line, mask_at}
use Rattle.ksi_logblock.specs.Links.{sides_of}
use Rattle.ksi_logblock.specs.Locating.{kept_root, located}
use Rattle.ksi_logblock.specs.Proofs.{root_by}

-- line k of the block is this line, and the proof's mask and sides are its own
pub record IsLine (image : List ℕ → List ℕ) (block : Masked) (line : List ℕ) (proof : LineProof) (k : ℕ) : Type 0 where
  pub there : k < length block.lines
  pub same : line ≡ line_at block k
  pub mask : proof.mask ≡ mask_at image block k
  pub sides : sides_of proof.links ≡ way_of k (length block.lines)

-- the line and its proof lead to the block's root
abbrev pub LeadsToRoot : (List ℕ → List ℕ) → Masked → List ℕ → LineProof → Type 0
LeadsToRoot image block line proof = root_by image line proof ≡ Ok (kept_root image block)

abbrev pub IsRefusal : (List ℕ → List ℕ) → Masked → List ℕ → LineProof → LineRefusal → Type 0
IsRefusal image block line proof (Level fault) = root_by image line proof ≡ Err fault
IsRefusal image block line proof (RootDiffers computed kept) = (root_by image line proof ≡ Ok computed) × (kept ≡ kept_root image block) × (computed ≢ kept)

-- what each answer shows
abbrev pub Shows : (List ℕ → List ℕ) → Masked → List ℕ → LineProof → Located → Type 0
Shows image block line proof (NotAccepted refusal) = IsRefusal image block line proof refusal
Shows image block line proof (In k) = LeadsToRoot image block line proof × IsLine image block line proof k
Shows image block line proof (Clash clash) = LeadsToRoot image block line proof × IsClash image clash

abbrev pub HasClash : Located → Type 0
HasClash (NotAccepted refusal) = ⊥
HasClash (In k) = ⊥
HasClash (Clash clash) = Unit {0}

-- so short strings that a line can show both
abbrev pub IsShortAnswer : Located → Type 0
IsShortAnswer (Clash clash) = (length clash.one ≤ longest_line) × (length clash.two ≤ longest_line)
IsShortAnswer _ = Unit {0}

-- the mask and the siblings of a proof are imprints
pub record HasImprints (proof : LineProof) : Type 0 where
  pub mask : IsImprint proof.mask
  pub siblings : AllByRecursion (λ link. length link.sibling ≡ 33) proof.links

-- the line is in the block, with its mask and sides, or the strings that it is located by are different and have one hash
abbrev pub StandsOrClash : (List ℕ → List ℕ) → Masked → List ℕ → LineProof → Type 0
StandsOrClash image block line proof =
    ((k : ℕ) × IsLine image block line proof k)
    ⊎ ((clash : clashes.Clash) × (located image block line proof ≡ Clash clash) × IsClash image clash)
