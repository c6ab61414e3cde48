-- Where no scalar of the kind that a byte begins lies, no value lies at all.
use Rattle.std.proofs.Common.{◌≡◌, ◌≢◌, ◌⊎◌, inl, inr, ◌+◌, ℕ, List, Bool, true, false, refl, arith}
use Rattle.smithy_json_grammar.specs.Ascii.{quotation_mark, begin_array, begin_object}
use Rattle.smithy_json_values.specs.LexicalGrammar.{LexicalGrammar, NodeLies}
use Rattle.smithy_json_values.specs.Scalar.{JsonScalar, a_boolean, a_number, a_string}
use Rattle.smithy_json_values.specs.Tokens.{is_numeric}
use Rattle.smithy_json_values.specs.Private.NextInContainer.{IsFirstByte}
use Rattle.smithy_json_values.specs.Private.Skipping.{NoValueLies}
use Rattle.smithy_json_values.proofs.FirstBytePlaces.{first_lies}
use Rattle.smithy_json_values.proofs.NodeFirstBytes.{BeginsWith, begins_with_byte}
use Rattle.smithy_wire.specs.Node.{as_array, as_object, Node, null_node, leaf, container, missing}

-- a byte in two roles
two_bytes : (b x y : ℕ) → b ≡ x → b ≡ y → x ≢ y → ⊥
two_bytes b x y h k differ = differ (omega arith)

no_number : (b x : ℕ) → b ≡ x → is_numeric x ≡ false → is_numeric b ≡ true → ⊥
no_number b x same fails holds = let at_x : is_numeric x ≡ true = rw same at holds in cc

module _ (g : LexicalGrammar) (test : JsonScalar → Bool) (i : List ℕ) (at b start : ℕ) (here : IsFirstByte i at b start) where
  begins_so : (d : ℕ) (x : Node JsonScalar) (e : ℕ) → NodeLies g test d x i at e → BeginsWith x b
  begins_so = begins_with_byte g test i at b (start + 1) here.plain (first_lies i at b start here)

  pub no_string : b ≡ quotation_mark → ((raw : List ℕ) (e : ℕ) → NodeLies g test 1 (leaf (a_string raw)) i at e → ⊥) → NoValueLies g test i at
  no_string is none d x e h = go x (begins_so d x e h) h
    where
      go : (x : Node JsonScalar) → BeginsWith x b → NodeLies g test d x i at e → ⊥
      go null_node l h = two_bytes b 0x6e quotation_mark l is (omega arith)
      go (leaf (a_boolean true)) l h = two_bytes b 0x74 quotation_mark l is (omega arith)
      go (leaf (a_boolean false)) l h = two_bytes b 0x66 quotation_mark l is (omega arith)
      go (leaf (a_number raw)) l h = no_number b quotation_mark is refl l
      go (leaf (a_string raw)) l h = none raw e h
      go (container as_array xs) l h = two_bytes b begin_array quotation_mark l is (omega arith)
      go (container as_object xs) l h = two_bytes b begin_object quotation_mark l is (omega arith)
      go missing l h = l

  pub no_null : b ≡ 0x6e → ((e : ℕ) → NodeLies g test 1 null_node i at e → ⊥) → NoValueLies g test i at
  no_null is none d x e h = go x (begins_so d x e h) h
    where
      go : (x : Node JsonScalar) → BeginsWith x b → NodeLies g test d x i at e → ⊥
      go null_node l h = none e h
      go (leaf (a_boolean true)) l h = two_bytes b 0x74 0x6e l is (omega arith)
      go (leaf (a_boolean false)) l h = two_bytes b 0x66 0x6e l is (omega arith)
      go (leaf (a_number raw)) l h = no_number b 0x6e is refl l
      go (leaf (a_string raw)) l h = two_bytes b quotation_mark 0x6e l is (omega arith)
      go (container as_array xs) l h = two_bytes b begin_array 0x6e l is (omega arith)
      go (container as_object xs) l h = two_bytes b begin_object 0x6e l is (omega arith)
      go missing l h = l

  pub no_boolean : (b ≡ 0x74) ⊎ (b ≡ 0x66) → ((t : Bool) (e : ℕ) → NodeLies g test 1 (leaf (a_boolean t)) i at e → ⊥) → NoValueLies g test i at
  no_boolean is none d x e h = go x is (begins_so d x e h) h
    where
      go : (x : Node JsonScalar) → (b ≡ 0x74) ⊎ (b ≡ 0x66) → BeginsWith x b → NodeLies g test d x i at e → ⊥
      go null_node (inl t) l h = two_bytes b 0x6e 0x74 l t (omega arith)
      go null_node (inr f) l h = two_bytes b 0x6e 0x66 l f (omega arith)
      go (leaf (a_boolean t)) is l h = none t e h
      go (leaf (a_number raw)) (inl t) l h = no_number b 0x74 t refl l
      go (leaf (a_number raw)) (inr f) l h = no_number b 0x66 f refl l
      go (leaf (a_string raw)) (inl t) l h = two_bytes b quotation_mark 0x74 l t (omega arith)
      go (leaf (a_string raw)) (inr f) l h = two_bytes b quotation_mark 0x66 l f (omega arith)
      go (container as_array xs) (inl t) l h = two_bytes b begin_array 0x74 l t (omega arith)
      go (container as_array xs) (inr f) l h = two_bytes b begin_array 0x66 l f (omega arith)
      go (container as_object xs) (inl t) l h = two_bytes b begin_object 0x74 l t (omega arith)
      go (container as_object xs) (inr f) l h = two_bytes b begin_object 0x66 l f (omega arith)
      go missing is l h = l

  -- with any other byte only a number begins
  pub only_number : b ≢ quotation_mark → b ≢ 0x6e → b ≢ 0x74 → b ≢ 0x66 → b ≢ begin_array → b ≢ begin_object
      → ((raw : List ℕ) (e : ℕ) → NodeLies g test 1 (leaf (a_number raw)) i at e → ⊥) → NoValueLies g test i at
  only_number q n t f a o none d x e h = go x (begins_so d x e h) h
    where
      go : (x : Node JsonScalar) → BeginsWith x b → NodeLies g test d x i at e → ⊥
      go null_node l h = n l
      go (leaf (a_boolean true)) l h = t l
      go (leaf (a_boolean false)) l h = f l
      go (leaf (a_number raw)) l h = none raw e h
      go (leaf (a_string raw)) l h = q l
      go (container as_array xs) l h = a l
      go (container as_object xs) l h = o l
      go missing l h = l
