use Rattle.std.proofs.Common.{◌≡◌, ℕ, List, [], ◌∷◌, ◌++◌, Option, Some, subst}
use Rattle.nx_script.specs.declared.request.Request.{Request}
use Rattle.nx_script.specs.declared.requests.Requests.{Requests}
use Rattle.nx_script.specs.Requests.{CanComeRequest, GivesNextRequest}
use Rattle.nx_script.proofs.OneRequestList.{request_can}
use Rattle.nx_store_tests.proofs.stores.request_of.Goals as goal

-- the first request that a script gives
first_can : (next : Option Request) (request : Request) (script : Requests) (first now : Option (List ℕ)) → next ≡ Some request → GivesNextRequest next script [] [] first now → CanComeRequest request
first_can next request script first now is given =
    let (more, has) = subst (λ (o : Option Request). GivesNextRequest o script [] [] first now) is given in
    request_can script more [] request has.given

pub returns-in-Some : goal.returns-in-Some
returns-in-Some c = first_can _ c.in-Some.request _ _ _ c.in-Some.is (c.in_ok-request.ensures.given _ [] [] (c.in_ok-script.ensures.ok _))
