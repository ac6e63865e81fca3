-- The loop of `build`: j projections have been made, along the first frames.
use mathlib.Core.Path.{◌≡◌, refl, ap, ◌∙◌}
use mathlib.Core.List.{List, []}
use Prim.Native.Nat.{ℕ, suc, ◌+◌, ◌*◌, ◌-◌, ◌<◌, ◌≤◌}
use native.Mathlib.Omega.{arith}
use native.Mathlib.Numerals.{add-one}
use lib.ListN.{length, get_or}
use Rattle.meaning.specs.Ast.{super, dict_proj}
use Rattle.names.specs.Names.{first_node, name_of}
use Rattle.ast.specs.Table.{Node}
use Rattle.ast.proofs.NewNode.{Pushed}
use Rattle.pairs.specs.Pairs.{Stands}
use Rattle.pairs.proofs.Frames.{stands_refl, stands_then, stands_less}
use Rattle.cores.specs.Parts.{pushed_four}
use Rattle.cores.specs.Terms.{core}
use Rattle.cores.proofs.NewTerm.{four-length, four_stands, push_super}
use Rattle.supers.specs.Frames.{class_in, path_core}

-- r is the dictionary of frame j.
pub record Building (w₀ : List ℕ) (top sp d e : ℕ) (w : List ℕ) (r j : ℕ) : Type 0 where
  pub stands : Stands w₀ w top (sp - 2 * suc d)
  pub long : length w ≡ length w₀
  pub upto : j ≤ d
  pub node : Node w (top + j) r
  pub is : (ns : List ℕ) → core ns w r ≡ path_core ns w₀ sp (core ns w₀ e) j

-- At first it is the given's.
pub building : {w : List ℕ} {top e : ℕ} (sp d : ℕ) → Node w top e → Building w top sp d e w e 0
unfolding path_core
building {w} {top} sp d N =
    let z : top + 0 ≡ top = omega arith in
    record { stands = stands_refl _ _ _; long = refl; upto = omega arith; node = rw z N; is = λ ns. refl }

-- One more projection.
pub building_on : {w₀ w w' : List ℕ} {top sp d e r j c s : ℕ} → Building w₀ top sp d e w r j → j < d → 4 * top + 4 * d + 2 * d + 2 ≤ sp → sp ≤ length w₀ → top + j < first_node
    → s ≡ get_or w (sp - 2 * (j + 2)) 0 → c ≡ get_or w (sp - 2 * (j + 2) + 2) 0 → w' ≡ pushed_four w (top + j) 10 r c s → Building w₀ top sp d e w' (first_node + (top + j)) (j + 1)
unfolding path_core class_in
building_on {w₀} {w} {w'} {top} {sp} {d} {e} {r} {j} {c} {s} B h room fits small es ec p =
    let l = B.long in
    let y : sp - 2 * (j + 2) ≡ sp - 2 * suc (suc j) = omega arith in
    let x : sp - 2 * (j + 2) + 2 ≡ sp - 2 * suc j = omega arith in
    let z : top + (j + 1) ≡ top + j + 1 = omega arith in
    let P : (ns : List ℕ) → Pushed (core ns w') w w' (top + j) (dict_proj (core ns w r) (super (name_of ns c) (name_of ns s))) = λ ns. push_super ns (omega arith) small c s B.node p in
    record {
      stands = stands_then {top₁ = top} B.stands (stands_less (four_stands w (top + j) 10 r c s p (sp - 2 * suc d) (omega arith)) (omega arith)) (omega arith);
      long = four-length w (top + j) 10 r c s p ∙ l;
      upto = omega arith;
      node = rw z (P []).node;
      is = λ ns. (P ns).is ∙ rw (
        add-one j,
        B.is ns,
        ec ∙ ap (λ i. get_or w i 0) x ∙ B.stands.high (sp - 2 * suc j) (omega arith),
        es ∙ ap (λ i. get_or w i 0) y ∙ B.stands.high (sp - 2 * suc (suc j)) (omega arith),
      );
    }
