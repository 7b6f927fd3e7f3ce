-- What is true of code whose chunk was written without a loss.
use Rattle.std.proofs.Common.{◌≡◌, sym, ap, ◌∙◌, subst, Bool, true, false, List, [], ◌∷◌, ◌++◌}
use Rattle.std.specs.Prelude.{if◌then◌else◌}
use Rattle.lua_tree.specs.Source.{Text, Block, body}
use Rattle.lua_code.specs.Valid.{IsValid}
use Rattle.lua_steps.specs.Machine.{Code}
use Rattle.lua_steps.specs.Serves.{Serves}
use Rattle.lua_steps.specs.Scope.{Scope}
use Rattle.lua_steps.specs.declared.scope.Known.{Known}
use Rattle.lua_compile.specs.HasCode.{HasCode}
use Rattle.lua_compile.specs.Writer.{Writer, done, resumed}
use Rattle.lua_compile.specs.Written.{body_written, opening, chunk_written}
use Rattle.lua_compile.specs.Compiled.{compiled}
use Rattle.lua_compile.proofs.Chunk.{chunk_serves, chunk_valid}
use Rattle.lua_compile.proofs.FoundTerms.{chunk_found}

pub valid_code : (flags : List Bool) (b : Block) (code : Code) (lost : Bool) → code ≡ (chunk_written flags b).made → lost ≡ (chunk_written flags b).lost → lost ≡ false → IsValid code
valid_code flags b code lost made was found = subst (λ (c : Code). IsValid c) (sym made) (chunk_valid flags b (sym was ∙ found))

pub serving_code : (flags : List Bool) (b : Block) (code : Code) (lost : Bool) → code ≡ (chunk_written flags b).made → lost ≡ (chunk_written flags b).lost → lost ≡ false → Serves code b
serving_code flags b code lost made was found = subst (λ (c : Code). Serves c b) (sym made) (chunk_serves flags b (sym was ∙ found))

pub without_code : (b : Block) (lost : Bool) → lost ≡ (chunk_written [] b).lost → lost ≡ true → HasCode b → ⊥
without_code b lost was gone has = (let e : true ≡ false = sym gone ∙ was ∙ chunk_found b has in cc)

pub by_flags : (flags : List Bool) (b : Block) (code : Code) (lost : Bool) → code ≡ (chunk_written flags b).made → lost ≡ (chunk_written flags b).lost → lost ≡ false → code ≡ compiled flags b
by_flags flags b code lost made was found =
    made ∙ ap (λ (l : Bool). if l then (chunk_written [] b).made else (chunk_written flags b).made) (sym (sym was ∙ found))

pub by_cells : (flags : List Bool) (b : Block) (code : Code) (lost : Bool) → code ≡ (chunk_written [] b).made → lost ≡ (chunk_written flags b).lost → lost ≡ true → code ≡ compiled flags b
by_cells flags b code lost made was gone =
    made ∙ ap (λ (l : Bool). if l then (chunk_written [] b).made else (chunk_written flags b).made) (sym (sym was ∙ gone))

pub chunk_made : (flags : List Bool) (b : Block) (xs : List Text) (out : Scope) (w v u inner : Writer) (made : Code) → w ≡ opening flags → xs ≡ [] → out.names ≡ []
    → inner ≡ body_written (body xs true b) out.names w → u ≡ resumed inner v → made ≡ u.made → made ≡ (chunk_written flags b).made
chunk_made flags b xs out w v u inner made ew ex eo ei eu em =
    let whole : inner ≡ body_written (body [] true b) [] (opening flags) =
    ei ∙ ap (λ (ys : List Text). body_written (body ys true b) out.names w) ex ∙ ap (λ (ns : List Known). body_written (body [] true b) ns w) eo
    ∙ ap (λ (x : Writer). body_written (body [] true b) [] x) ew in
    em ∙ ap (λ (x : Writer). x.made) eu ∙ ap (λ (x : Writer). x.made ++ done x ∷ []) whole
