mod BoxedStore
mod Held
mod PtrValues
mod StoreGoes
