-- Session files, computed from their bytes. The numbers and offsets are those of two readers that were written apart.
use mathlib.Core.Path.{◌≡◌, refl}
use mathlib.Core.Bool.{true}
use mathlib.Core.List.{List, [], ◌∷◌, ◌++◌, map}
use Prim.Native.Nat.{ℕ, ◌+◌}
use Prim.Native.String.{String}
use Rattle.meaning.specs.Base.{count}
use Rattle.meaning.specs.Text.{quoted}
use Rattle.meaning.specs.Ast.{called, arrow, nil, ◌◂◌, Expr, eint, ebool, eapp}
use Rattle.meaning.specs.Reader.{got}
use Rattle.meaning.specs.File.{File, read}
use Rattle.meaning.specs.Listing.{listing_of, printed}
use Rattle.meaning.proofs.Written.{v, c, ev, lam, bind, at, sig, body, class, instance, define, check}
use Rattle.meaning.proofs.Metered.{everything, said}
use Rattle.meaning.proofs.Bytes.{bytes, word_bytes, cut, put, verdict, notation}

-- ## the worked session
worked_file : List ℕ
unfolding everything notation
worked_file = bytes "0800 'Eq 'a 'eq 'Bool 'Int 'primEqInt 'same 'x 0500 0103000000 000100 0201000000 0201000200 0104000000 0B00 000500 000200 000700 0401000200 0403000200 0307000400 000600 010100000000000000 0406000700 0201 0401000900 0600 00 0000 0100 0000 0100 02000300 0000 01 0000 0000 0400 0100 02000000 02 06000500 03 0800 03 0500 03 0A00"

-- From its bytes to its listing.
worked_read : printed (listing_of 512 65_536 512 65_536 worked_file) ≡ said "declarations 6\n0 0 -\n1 0 -\n2 0 [Eq a] (-> a Bool)\n3 0 [] Bool = (app (dapp same (rec Eq Int)) 1)\n4 0 [Eq a] (-> a Bool) = (dabs [d2 Eq a] (lam x (app (app (proj d2 eq) x) x)))\n5 16 Eq Bool\n"
unfolding everything said worked_file
worked_read = refl

-- ## a file with each kind of field
-- After the names: a type, an expression and a declaration of each kind, in the order of their tags.
rest : List ℕ
unfolding everything notation
rest = bytes "0300 00 0000 01 0000 0100 0000 02 0000 0100 0600 00 0000 01 0807060504030201 02 01 03 0000 0200 04 0300 0000 05 0000 0400 0100 0400 00 0000 0000 0100 0000 0100 0000 0200 0100 0000 0500 01 0100 0000 0000 0000 0100 0100 0000 0500 02 0000 0500 03 0500"

-- All name numbers are 0.
every : List ℕ
unfolding everything notation rest
every = bytes "0100 'ab" ++ rest

-- Its expressions one by one.
abbrev int-8 : Expr
int-8 = eint 0x0102030405060708

abbrev applied : Expr
applied = eapp (lam "ab" (ebool true)) (ev "ab")

abbrev bound : Expr
bound = bind "ab" applied int-8

-- What it says.
abbrev every_said : File
every_said = record {
  names = called "ab" ∷ [];
  types = v "ab" ∷ c "ab" (v "ab" ◂ nil) ∷ arrow (v "ab") (c "ab" (v "ab" ◂ nil)) ∷ [];
  exprs = ev "ab" ∷ int-8 ∷ ebool true ∷ lam "ab" (ebool true) ∷ applied ∷ bound ∷ [];
  decls =
      class "ab" "ab" ("ab" ∷ []) (sig "ab" (arrow (v "ab") (c "ab" (v "ab" ◂ nil))) ∷ []) (body "ab" bound ∷ [])
      ∷ instance (at "ab" (v "ab") ∷ []) "ab" (c "ab" (v "ab" ◂ nil)) (body "ab" bound ∷ [])
      ∷ define "ab" bound
      ∷ check bound
      ∷ [];
}

every_read : read every ≡ got every_said 103 []
unfolding everything every rest notation
every_read = refl

-- ## cut files, and more bytes
-- Each beginning of it, from none of its bytes on, is refused at the field that is cut.
abbrev field-starts : List ℕ
field-starts = 0 ∷ 0 ∷ 2 ∷ 3 ∷ 3 ∷ 5 ∷ 5 ∷ 7 ∷ 8 ∷ 8 ∷ 10 ∷ 11 ∷ 11 ∷ 13 ∷ 13 ∷ 15 ∷ 15 ∷ 17 ∷ 18 ∷ 18 ∷ 20 ∷ 20 ∷ 22 ∷ 22 ∷ 24 ∷ 25 ∷ 25 ∷ 27 ∷ 28 ∷ 28 ∷ 28 ∷ 28 ∷ 28 ∷ 28 ∷ 28 ∷ 28 ∷ 36 ∷ 37 ∷ 38 ∷ 39 ∷ 39 ∷ 41 ∷ 41 ∷ 43 ∷ 44 ∷ 44 ∷ 46 ∷ 46 ∷ 48 ∷ 49 ∷ 49 ∷ 51 ∷ 51 ∷ 53 ∷ 53 ∷ 55 ∷ 55 ∷ 57 ∷ 58 ∷ 58 ∷ 60 ∷ 60 ∷ 62 ∷ 62 ∷ 64 ∷ 64 ∷ 66 ∷ 66 ∷ 68 ∷ 68 ∷ 70 ∷ 70 ∷ 72 ∷ 72 ∷ 74 ∷ 74 ∷ 76 ∷ 76 ∷ 78 ∷ 79 ∷ 79 ∷ 81 ∷ 81 ∷ 83 ∷ 83 ∷ 85 ∷ 85 ∷ 87 ∷ 87 ∷ 89 ∷ 89 ∷ 91 ∷ 91 ∷ 93 ∷ 93 ∷ 95 ∷ 96 ∷ 96 ∷ 98 ∷ 98 ∷ 100 ∷ 101 ∷ 101 ∷ []

-- The verdicts of the file cut to each length from k on, as many as the list is long.
unfoldable cuts : ℕ → List ℕ → List (ℕ × ℕ)
cuts k [] = []
cuts k (o ∷ os) = verdict (cut k every) ∷ cuts (1 + k) os

cut_files : cuts 0 field-starts ≡ map (λ o. (1, o)) field-starts
unfolding everything every rest notation cuts
cut_files = refl

longer_files : (verdict (every ++ 0 ∷ []) ≡ (1, 103)) × (verdict (every ++ 0 ∷ 0 ∷ []) ≡ (1, 103)) × (verdict (bytes "0000 0000 0000 0000 FF") ≡ (1, 8))
unfolding everything every rest notation
longer_files = (refl, refl, refl)

-- ## one byte changed
-- Each of these bytes in its place is refused with that number, at its own offset.
abbrev Refused : ℕ → List (ℕ × ℕ) → Type 0
Refused n ps = map (λ (p : ℕ × ℕ). verdict (put p.0 p.1 every)) ps ≡ map (λ (p : ℕ × ℕ). (n, p.0)) ps

lengths : Refused 1 ((2, 0) ∷ (2, 33) ∷ (2, 255) ∷ [])
unfolding everything every rest notation
lengths = refl

-- The neighbours of digits, capitals, the underscore and small letters.
letters : Refused 1 ((3, 47) ∷ (3, 58) ∷ (3, 64) ∷ (3, 91) ∷ (3, 94) ∷ (3, 96) ∷ (3, 123) ∷ (3, 0) ∷ (3, 32) ∷ (3, 128) ∷ [])
unfolding everything every rest notation
letters = refl

tags : Refused 1 ((7, 3) ∷ (10, 3) ∷ (17, 255) ∷ (24, 6) ∷ (27, 6) ∷ (36, 255) ∷ (37, 2) ∷ (57, 4) ∷ (78, 4) ∷ (95, 4) ∷ (100, 255) ∷ [])
unfolding everything every rest notation
tags = refl

-- One past the last name, in each place of a name.
past_names : Refused 1 ((8, 1) ∷ (11, 1) ∷ (25, 1) ∷ (39, 1) ∷ (49, 1) ∷ (58, 1) ∷ (60, 1) ∷ (64, 1) ∷ (68, 1) ∷ (74, 1) ∷ (81, 1) ∷ (85, 1) ∷ (91, 1) ∷ (96, 1) ∷ [])
unfolding everything every rest notation
past_names = refl

-- A node that names itself: an argument, both sides of an arrow, a body, both parts of an application and of a let.
self_references : Refused 1 ((15, 1) ∷ (18, 2) ∷ (20, 2) ∷ (41, 3) ∷ (44, 4) ∷ (46, 4) ∷ (51, 5) ∷ (53, 5) ∷ [])
unfolding everything every rest notation
self_references = refl

forward_references : Refused 1 ((15, 2) ∷ (18, 3) ∷ (20, 3) ∷ (41, 4) ∷ (44, 5) ∷ (46, 5) ∷ (51, 6) ∷ (53, 255) ∷ [])
unfolding everything every rest notation
forward_references = refl

-- One past the last type or expression, in each place of a declaration.
past_nodes : Refused 1 ((70, 3) ∷ (76, 6) ∷ (83, 3) ∷ (87, 3) ∷ (93, 6) ∷ (98, 6) ∷ (101, 6) ∷ [])
unfolding everything every rest notation
past_nodes = refl

-- 65 arguments, superclasses, signatures, defaults, contexts, methods.
long_lists : Refused 2 ((13, 65) ∷ (62, 65) ∷ (66, 65) ∷ (72, 65) ∷ (79, 65) ∷ (89, 65) ∷ [])
unfolding everything every rest notation
long_lists = refl

-- A bad second byte belongs to the field that begins before it; 64 items are read, and fail later.
abbrev Elsewhere : List ((ℕ × ℕ) × (ℕ × ℕ)) → Type 0
Elsewhere ps = map (λ (p : (ℕ × ℕ) × (ℕ × ℕ)). verdict (put p.0.0 p.0.1 every)) ps ≡ map (λ (p : (ℕ × ℕ) × (ℕ × ℕ)). p.1) ps

elsewhere : Elsewhere (((4, 46), (1, 3)) ∷ ((9, 1), (1, 8)) ∷ ((14, 1), (2, 13)) ∷ ((16, 1), (1, 15)) ∷ ((102, 1), (1, 101))
    ∷ ((13, 64), (1, 17)) ∷ ((62, 64), (1, 66)) ∷ ((66, 64), (1, 72)) ∷ ((72, 64), (1, 78)) ∷ ((79, 64), (1, 89)) ∷ ((89, 64), (1, 95)) ∷ [])
unfolding everything every rest notation
elsewhere = refl

-- ## small files
abbrev Verdicts : List (String × (ℕ × ℕ)) → Type 0
Verdicts ps = map (λ (p : String × (ℕ × ℕ)). verdict (bytes p.0)) ps ≡ map (λ (p : String × (ℕ × ℕ)). p.1) ps

-- One past the limit of each section is refused at the count; the limit itself is read on, to the end of the file.
section_limits : Verdicts
    (("0104", (2, 0)) ∷ ("0004", (1, 2)) ∷ ("0000 0110", (2, 2)) ∷ ("0000 0010", (1, 4)) ∷ ("0000 0000 0110", (2, 4)) ∷ ("0000 0000 0010", (1, 6))
    ∷ ("0000 0000 0000 0102", (2, 6)) ∷ ("0000 0000 0000 0002", (1, 8)) ∷ ("0000 0000 0000 0000", (0, 0)) ∷ [])
unfolding everything notation
section_limits = refl

-- Equal names, of which the second is refused at its text; names that differ; 32 letters.
names_differ : Verdicts
    (("0200 'a 'a", (1, 5)) ∷ ("0300 'ab 'b 'ab", (1, 8)) ∷ ("0300 'a 'aa 'A 0000 0000 0000", (0, 0))
    ∷ ("0100 'abcdefghijklmnopqrstuvwxyz_01234 0000 0000 0000", (0, 0)) ∷ ("0100 'abcdefghijklmnopqrstuvwxyz_012345 0000 0000 0000", (1, 2)) ∷ [])
unfolding everything notation
names_differ = refl

-- The first bad item decides: cut before limit; a limit before what it counts; a name's number before its form; RESERVED
-- before a later FORMAT or LIMIT, and after an earlier one.
first_bad : Verdicts
    (("01", (1, 0)) ∷ ("FFFF 00", (2, 0)) ∷ ("0100 't0 0100 00 00", (1, 8)) ∷ ("0100 't0 0100 00 0100", (1, 8)) ∷ ("0100 't0 0100 00 0000", (3, 8)) ∷ ("0100 't0 0200 00 0000 07", (3, 8))
    ∷ ("0100 't0 0100 00 0000 FFFF", (3, 8)) ∷ ("0100 't0 0200 07 00 0000", (1, 7)) ∷ ("0100 't0 0110 00 0000", (2, 5)) ∷ [])
unfolding everything notation
first_bad = refl

-- ## reserved names
-- The name numbers of `rest`, by their offsets in it: of type variables, in a Var node and in a class;
abbrev variables : List ℕ
variables = 3 ∷ 55 ∷ []

-- in Var, Abs and Let nodes, a signature, a default, a method and a let;
abbrev words : List ℕ
words = 20 ∷ 34 ∷ 44 ∷ 63 ∷ 69 ∷ 86 ∷ 91 ∷ []

-- of a constructor, a class, a superclass, a context and a head.
abbrev others : List ℕ
others = 6 ∷ 53 ∷ 59 ∷ 76 ∷ 80 ∷ []

-- The name numbers at those places become 1.
unfoldable renumbered : List ℕ → List ℕ → List ℕ
unfolding put
renumbered [] bs = bs
renumbered (at ∷ ats) bs = put at 1 (renumbered ats bs)

-- The verdict where a second name stands in the name table, and in all of those places.
unfoldable naming : String → List ℕ → ℕ × ℕ
unfolding everything notation rest renumbered
naming s places = verdict (bytes "0200 'ab" ++ word_bytes (quoted "'" (quoted s [])) ++ renumbered places rest)

-- Each of the names is refused with 3 in each of the places, at its number.
abbrev ReservedIn : List ℕ → List String → Type 0
ReservedIn places ss = map (λ (s : String). map (λ at. naming s (at ∷ [])) places) ss ≡ map (λ (s : String). map (λ at. (3, 6 + count (quoted s []) + at)) places) ss

-- Each is free in all of the places: the file is a good one, of four declarations.
abbrev FreeIn : List ℕ → List String → Type 0
FreeIn places ss = map (λ (s : String). naming s places) ss ≡ map (λ (s : String). (0, 4)) ss

made_variables : ReservedIn variables ("t0" ∷ "t00" ∷ "t9876543210" ∷ []) × FreeIn (words ++ others) ("t0" ∷ "t00" ∷ "t9876543210" ∷ [])
unfolding everything naming
made_variables = (refl, refl)

abbrev made : List String
made = "self" ∷ "d0" ∷ "d00" ∷ "d19" ∷ "d_ctx_" ∷ "d_ctx_x" ∷ "__super_" ∷ "__super_x" ∷ []

made_names : ReservedIn words made × FreeIn (variables ++ others) made
unfolding everything naming
made_names = (refl, refl)

free_names : FreeIn (variables ++ words ++ others) ("t" ∷ "t1x" ∷ "tx1" ∷ "T0" ∷ "t_0" ∷ "d" ∷ "dx" ∷ "d1x" ∷ "D0" ∷ "d_ct" ∷ "d_ctx" ∷ "_d_ctx_" ∷ "__supe" ∷ "__super" ∷ "_super_x" ∷ "sel" ∷ "selfs" ∷ "Self" ∷ [])
unfolding everything naming
free_names = refl

-- A name that no node and no declaration names is free, whatever its form.
unused_free : Verdicts (("0600 't0 'self 'd0 'd_ctx_x '__super_x 'a 0000 0000 0000", (0, 0)) ∷ [])
unfolding everything notation
unused_free = refl

-- ## what is printed
abbrev Prints : List ℕ → (work length : ℕ) → String → Type 0
Prints file work length s = printed (listing_of 512 work 512 length file) ≡ said s

-- A refused file runs no declaration. It is read before the room for the 33 nodes is tested.
refusals_printed :
    Prints [] 65_536 65_536 "refused 1 0\n"
    × Prints (put 37 2 every) 65_536 65_536 "refused 1 37\n"
    × Prints (put 62 65 every) 65_536 65_536 "refused 2 62\n"
    × Prints (bytes "0100 't0 0100 00 0000") 65_536 65_536 "refused 3 8\n"
    × Prints (put 37 2 every) 0 65_536 "refused 1 37\n"
    × Prints every 2_111 65_536 "refused 5 0\n"
    × Prints every 2_112 53 "declarations 4\n0 5 -\n1 5 -\n2 5 -\n3 5 -\n"
    × Prints every 65_536 45 "refused 8 0\n"
unfolding everything said every rest notation
refusals_printed = (refl, refl, refl, refl, refl, refl, refl, refl)
