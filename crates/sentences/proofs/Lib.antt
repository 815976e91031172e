-- Laws of texts with signs: each sign, the loop over a text, how long it can get; the page of an answer, and how a refusal's sentence
-- begins.
pub mod Signs
pub mod Laying
pub mod Fitting
pub mod Answering
pub mod Naming
