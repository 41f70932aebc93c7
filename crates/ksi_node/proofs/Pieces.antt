-- What a piece takes of known bytes.
use Rattle.std.proofs.Common.{◌≡◌, ◌≢◌, ℕ, ◌≤◌, List, [], ◌∷◌, ◌++◌, ◌∙◌, ap, append_assoc, inl, inr, length, take, Bool, true, false, Option, Some, None, refl, sym, subst, IfSome}
use Rattle.std.specs.Io.{StartsWith}
use Rattle.std.specs.Io.KnownBytes.{Consumes, IsAtEnd, Keeps}
use Rattle.std.specs.Io.BufRead.{DropsConsumable}
use Rattle.std.proofs.KnownBytes.{Consumes-trans}
use Rattle.std.proofs.lemmas.List.Elements.{All-append}
use Rattle.std.proofs.BufReadLemmas.{Consumes_shown}
use Rattle.ksi_node.specs.declared.inlet.Piece.{Piece}
use Rattle.ksi_node.specs.declared.inlet.Piece.TheVariants as pieces
use Rattle.ksi_node.specs.Inlet.{came_of, Comes, HasCome, Holds, IsFree, IsPiece, IsTaken, NoFeed, PieceTaken}

at_end : (a : Option (List ℕ)) (shown : List ℕ) → IfSome a (λ xs. length shown ≡ 0 → xs ≡ []) → length shown ≡ 0 → IsAtEnd a
at_end None shown end none = tt
at_end (Some xs) shown end none = end none

pub piece_taken : (piece : Piece) (a b c : Option (List ℕ)) (buffered : Option ℕ) (shown : List ℕ) (front used : ℕ) → used ≤ length shown → IsTaken piece shown front used
    → IfSome a (λ xs. StartsWith xs shown) → IfSome a (λ xs. length shown ≡ 0 → xs ≡ []) → Keeps a b
    → IfSome a (λ _. IfSome buffered (λ k. length shown ≤ k)) → DropsConsumable b c buffered used → IsPiece piece (take front shown) a c
piece_taken pieces.More a b c buffered shown front used within taken starts end kept fits drops =
    subst (λ n. Consumes a c (take n shown)) taken (Consumes_shown a b c buffered shown used within starts end kept fits drops).0
piece_taken pieces.Whole a b c buffered shown front used within taken starts end kept fits drops =
    subst (λ bytes. Consumes a c bytes) taken (Consumes_shown a b c buffered shown used within starts end kept fits drops).0
piece_taken pieces.Stopped a b c buffered shown front used within taken starts end kept fits drops = (
  subst (λ n. take n shown ≡ []) (sym taken.1) refl,
  at_end a shown end taken.0,
  subst (λ n. Consumes a c (take n shown)) taken.2 (Consumes_shown a b c buffered shown used within starts end kept fits drops).0,
)

-- ---- the pieces of one line

-- what was taken of the input so far, which has no line feed
pub record SoFar (line : List ℕ) (is_long : Bool) (input left : Option (List ℕ)) : Type 0 where
  pub bytes : List ℕ
  pub free : NoFeed bytes
  pub holds : Holds bytes line is_long
  pub taken : Consumes input left bytes

both_free : (one other : List ℕ) → NoFeed one → NoFeed other → NoFeed (one ++ other)
both_free one other = All-append (λ b. b ≢ 10) one other

pub more_so_far : (old_line new_line : List ℕ) (old_long new_long : Bool) (input mid left : Option (List ℕ)) → SoFar old_line old_long input mid
    → PieceTaken pieces.More old_line old_long new_line new_long mid left → SoFar new_line new_long input left
more_so_far old_line new_line old_long new_long input mid left so_far taken = record {
  bytes = so_far.bytes ++ taken.0;
  free = both_free so_far.bytes taken.0 so_far.free taken.1;
  holds = taken.3 so_far.bytes so_far.holds;
  taken = Consumes-trans input mid left so_far.bytes taken.0 so_far.taken taken.2;
}

whole : (line : List ℕ) (is_long : Bool) (input rest bytes : List ℕ) → NoFeed bytes → Holds bytes line is_long → input ≡ bytes ++ 10 ∷ rest → Comes (came_of pieces.Whole is_long) line input rest
whole line true input rest bytes free holds is = record { line = bytes; free = free; more = holds; cut = inl is }
whole line false input rest bytes free holds is = (subst NoFeed (sym holds.0) free, subst (λ t. length t ≤ 32000) (sym holds.0) holds.1, subst (λ t. input ≡ t ++ 10 ∷ rest) (sym holds.0) is)

stopped : (line : List ℕ) (is_long : Bool) (input rest bytes : List ℕ) → NoFeed bytes → Holds bytes line is_long → input ≡ bytes → rest ≡ [] → Comes (came_of pieces.Stopped is_long) line input rest
stopped line true input rest bytes free holds is none = record { line = bytes; free = free; more = holds; cut = inr (is, none) }
stopped line false input rest bytes free holds is none = (subst NoFeed (sym is) free, subst (λ t. length t ≤ 32000) (sym is) holds.1, none)

free_line : (piece : Piece) (line : List ℕ) (is_long : Bool) (bytes : List ℕ) → NoFeed bytes → Holds bytes line is_long → IsFree (came_of piece is_long) line
free_line piece line true bytes free holds = tt
free_line pieces.More line false bytes free holds = tt
free_line pieces.Whole line false bytes free holds = subst NoFeed (sym holds.0) free
free_line pieces.Stopped line false bytes free holds = tt

pub has_come : (piece : Piece) (old_line line : List ℕ) (old_long is_long : Bool) (input mid left : Option (List ℕ)) → SoFar old_line old_long input mid
    → PieceTaken piece old_line old_long line is_long mid left → (piece ≡ pieces.More → ⊥) → HasCome (came_of piece is_long) line input left
has_come pieces.More old_line line old_long is_long input mid left so_far taken not = absurd (not refl)
has_come pieces.Whole old_line line old_long is_long None mid left so_far taken not =
    free_line pieces.Whole line is_long (so_far.bytes ++ taken.0) (both_free so_far.bytes taken.0 so_far.free taken.1) (taken.3 so_far.bytes so_far.holds)
has_come pieces.Whole old_line line old_long is_long (Some i) None left so_far taken not = absurd so_far.taken
has_come pieces.Whole old_line line old_long is_long (Some i) (Some m) None so_far taken not = taken.2
has_come pieces.Whole old_line line old_long is_long (Some i) (Some m) (Some r) so_far taken not =
    let before = so_far.bytes in
    whole line is_long i r (before ++ taken.0) (both_free before taken.0 so_far.free taken.1) (taken.3 before so_far.holds)
    (so_far.taken ∙ ap (λ t. before ++ t) (taken.2 ∙ append_assoc taken.0 (10 ∷ []) r) ∙ sym (append_assoc before taken.0 (10 ∷ r)))
has_come pieces.Stopped old_line line old_long is_long None mid left so_far taken not =
    free_line pieces.Stopped line is_long (so_far.bytes ++ taken.0) (both_free so_far.bytes taken.0 so_far.free taken.1) (taken.3 so_far.bytes so_far.holds)
has_come pieces.Stopped old_line line old_long is_long (Some i) None left so_far taken not = absurd so_far.taken
has_come pieces.Stopped old_line line old_long is_long (Some i) (Some m) None so_far taken not = taken.2.2
has_come pieces.Stopped old_line line old_long is_long (Some i) (Some m) (Some r) so_far taken not =
    let before = so_far.bytes in
    stopped line is_long i r (before ++ taken.0) (both_free before taken.0 so_far.free taken.1) (taken.3 before so_far.holds)
    (so_far.taken ∙ ap (λ t. before ++ t) (taken.2.1 ∙ sym taken.2.0)) (sym taken.2.2 ∙ taken.2.1)
