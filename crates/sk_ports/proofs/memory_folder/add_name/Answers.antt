use Rattle.std.proofs.Common.{◌∙◌, ◌++◌, ◌∷◌, [], ap, map, string_bytes}
use Rattle.std.proofs.lemmas.List.{map_push}
use Rattle.sk_ports.proofs.FilesLemmas.{has_name-texts, with_name-new, with_name-there}
use Rattle.sk_ports.proofs.memory_folder.add_name.Goals as goal

pub returns-then-has_name : goal.returns-then-has_name
returns-then-has_name c =
    let names = c.args.names.now.items in
    with_name-there (map string_bytes names) c.args.name.now
    (has_name-texts names c.deref.result.now c.args.name.now c.has_name.result _ c.deref.ensures.value c.has_name.ensures c.if-has_name.true)

pub returns : goal.returns
returns c =
    let names = c.args.names.now.items in
    ap (map string_bytes) c.in_ok-push.ensures.items ∙ map_push string_bytes names c.in_ok-from_str.field-0
    ∙ ap (λ text. map string_bytes names ++ text ∷ []) c.in_ok-from_str.ensures.ok
    ∙ with_name-new (map string_bytes names) c.args.name.now
    (has_name-texts names c.deref.result.now c.args.name.now c.has_name.result _ c.deref.ensures.value c.has_name.ensures c.if-has_name.false)
